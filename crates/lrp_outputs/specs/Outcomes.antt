-- What a run comes to: the bytes of an output, or a refusal; each has its text and its status.
use Rattle.std.specs.Prelude.{ℕ, List, ◌++◌, Result, Ok, Err, codes}
use Rattle.std.specs.Fmt.{decimal}
use Rattle.lrp_model.specs.Kinds.{database_word, query_word}
use Rattle.lrp_model.specs.declared.tokens.Place.{Place}
use Rattle.lrp_outputs.specs.declared.status.Status.{Status}
use Rattle.lrp_outputs.specs.declared.status.Status.TheVariants as status
use Rattle.lrp_outputs.specs.declared.refusal.Refusal.{Refusal}
use Rattle.lrp_outputs.specs.declared.refusal.Refusal.TheVariants.{Usage, ReadDatabase, LongDatabase, Database, ReadQuery, LongQuery, Query, Formulas, Depth, PeriodLimit, BoundLimit, TokenForm, TokenShape, TokenStale, Cells, Head, CanonRows, Watch, Memory}
use Rattle.lrp_outputs.specs.declared.head.HeadNeed.{HeadNeed}
use Rattle.lrp_outputs.specs.declared.head.HeadNeed.TheVariants as needs
use Rattle.lrp_outputs.specs.declared.watch_refusal.WatchRefusal.{WatchRefusal}
use Rattle.lrp_outputs.specs.declared.watch_refusal.WatchRefusal.TheVariants as watch

-- the line of a fault: whose it is, its kind, its line and its column
abbrev pub fault_line : List ℕ → List ℕ → Place → List ℕ
fault_line whose kind place = whose ++ (kind ++ (codes " at " ++ (decimal place.line ++ (codes ":" ++ (decimal place.column ++ codes "\n")))))

-- the line of more than cap cells, and where they are: at the step or the edit of a number
abbrev pub cells_line : ℕ → List ℕ → ℕ → List ℕ
cells_line cap place number = codes "refused: more than " ++ (decimal cap ++ (place ++ (decimal number ++ codes "\n")))

-- the line of an edit at which a limit is passed
abbrev pub edit_line : List ℕ → ℕ → List ℕ
edit_line limit edit = limit ++ (decimal edit ++ codes "\n")

-- the line of a canonical answer that has more than cap rows
abbrev pub rows_line : ℕ → List ℕ
rows_line cap = codes "refused: more than " ++ (decimal cap ++ codes " canonical rows\n")

-- the line of a head with which something is not told
abbrev pub head_line : HeadNeed → List ℕ
head_line needs.Canon = codes "refused: canon needs one time column\n"
head_line needs.Count = codes "refused: count needs at most one time column\n"
head_line needs.Ranges = codes "refused: ranges needs one time column\n"

-- the line of a refusal of a watch
abbrev pub watch_line : WatchRefusal → List ℕ
watch_line watch.NotKept = codes "refused: query not kept\n"
watch_line watch.Read = codes "refused: read of edits\n"
watch_line watch.Long = codes "refused: edits longer than 16777216 bytes\n"
watch_line (watch.Edits fault) = fault_line (codes "refused: edits ") (database_word fault.kind) fault.place
watch_line (watch.PeriodLimit edit) = edit_line (codes "refused: period above 4611686018427387904 at edit ") edit
watch_line (watch.BoundLimit edit) = edit_line (codes "refused: bound above 4611686018427387904 at edit ") edit
watch_line (watch.Cells cap edit) = cells_line cap (codes " cells at edit ") edit

-- the line of a refusal
abbrev pub line_of : Refusal → List ℕ
line_of Usage = codes "refused: usage\n"
line_of ReadDatabase = codes "refused: read of database\n"
line_of LongDatabase = codes "refused: database longer than 16777216 bytes\n"
line_of (Database fault) = fault_line (codes "refused: database ") (database_word fault.kind) fault.place
line_of ReadQuery = codes "refused: read of query\n"
line_of LongQuery = codes "refused: query longer than 16777216 bytes\n"
line_of (Query fault) = fault_line (codes "refused: query ") (query_word fault.kind) fault.place
line_of Formulas = codes "refused: more than 1000000 formulas\n"
line_of Depth = codes "refused: deeper than 400 formulas\n"
line_of PeriodLimit = codes "refused: period above 4611686018427387904\n"
line_of BoundLimit = codes "refused: bound above 4611686018427387904\n"
line_of TokenForm = codes "refused: token form\n"
line_of TokenShape = codes "refused: token shape\n"
line_of TokenStale = codes "refused: token stale\n"
line_of (Cells cap step) = cells_line cap (codes " cells at step ") step
line_of (Head need) = head_line need
line_of (CanonRows cap) = rows_line cap
line_of (Watch refusal) = watch_line refusal
line_of Memory = codes "refused: memory\n"

-- the status of a refusal of a watch
abbrev pub watch_refused_with : WatchRefusal → Status
watch_refused_with watch.NotKept = status.Query
watch_refused_with watch.Read = status.Read
watch_refused_with watch.Long = status.Database
watch_refused_with (watch.Edits fault) = status.Database
watch_refused_with (watch.PeriodLimit edit) = status.Limit
watch_refused_with (watch.BoundLimit edit) = status.Limit
watch_refused_with (watch.Cells cap edit) = status.Limit

-- the status of a refusal
abbrev pub refused_with : Refusal → Status
refused_with Usage = status.Usage
refused_with ReadDatabase = status.Read
refused_with LongDatabase = status.Database
refused_with (Database fault) = status.Database
refused_with ReadQuery = status.Read
refused_with LongQuery = status.Query
refused_with (Query fault) = status.Query
refused_with Formulas = status.Limit
refused_with Depth = status.Limit
refused_with PeriodLimit = status.Limit
refused_with BoundLimit = status.Limit
refused_with TokenForm = status.Query
refused_with TokenShape = status.Query
refused_with TokenStale = status.Query
refused_with (Cells cap step) = status.Limit
refused_with (Head need) = status.Query
refused_with (CanonRows cap) = status.Limit
refused_with (Watch refusal) = watch_refused_with refusal
refused_with Memory = status.Memory

-- the bytes of an output, or a refusal
abbrev pub Outcome : Type 0
Outcome = Result (List ℕ) Refusal

-- what is written of it: the output, or the refusal's line
abbrev pub written_of : Outcome → List ℕ
written_of (Ok bytes) = bytes
written_of (Err refusal) = line_of refusal

-- the status that it has
abbrev pub status_of : Outcome → Status
status_of (Ok bytes) = status.Done
status_of (Err refusal) = refused_with refusal
