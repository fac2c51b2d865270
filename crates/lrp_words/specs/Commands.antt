-- The command that words spell: the first word is its name, and each further one gives one of its keys a value.
use Rattle.std.specs.Prelude.{◌≡◌, ℕ, ℤ, nat_le, length, List, [], ◌∷◌, Bool, true, false, ◌&&◌, Option, Some, None, if◌then◌else◌, codes}
use Rattle.std.specs.Borrow.{Bor}
use Rattle.std.specs.Option.{option_and_then}
use Rattle.std.specs.Str.{bytes_eq}
use Rattle.lrp_model.specs.Texts.{Text}
use Rattle.lrp_model.specs.declared.plans.Planning.{Planning}
use Rattle.lrp_model.specs.declared.plans.Planning.TheVariants.{Written, Guarded}
use Rattle.lrp_calendar.specs.Minutes.{minute_by}
use Rattle.lrp_model.specs.Lexing.{tokens}
use Rattle.lrp_model.specs.Tokens.{Tokens}
use Rattle.lrp_text.specs.Taking.{is_token_named}
use Rattle.lrp_words.specs.declared.keys.Key.{Key}
use Rattle.lrp_words.specs.declared.keys.Key.TheVariants.{Db, Query, Edits, Cap, Plan, From, To, Limit, After, Form, Tense, Wide, Canon, As, Civil, Show, Kept, Seed, Size}
use Rattle.lrp_words.specs.declared.command.Command.{Command}
use Rattle.lrp_words.specs.declared.command.LintFiles.{LintFiles}
use Rattle.lrp_words.specs.declared.command.QuestionFiles.{QuestionFiles}
use Rattle.lrp_words.specs.declared.command.Command.TheVariants.{Question, Check, Lint, Watch, Sample}
use Rattle.lrp_words.specs.declared.purpose.Purpose.{Purpose}
use Rattle.lrp_words.specs.declared.purpose.Purpose.TheVariants.{Plan as Explained, Answer, Witness, Page, Count, Ranges}
use Rattle.lrp_words.specs.Entries.{value_for, are_given}
use Rattle.lrp_words.specs.Numbers.{natural, within, integer_up_to}
use Rattle.lrp_model.specs.Limits.{greatest_number, most_bytes}

-- what each question of files has: the names of the files of its database and of its query, how the query is planned, whether it may have temporal operators or is in the wide language, and whether times are civil ones
pub record FilesAsked : Type 0 where
  pub database : Text
  pub query : Text
  pub way : Planning
  pub tense : Bool
  pub wide : Bool
  pub civil : Bool

-- what is looked over: the name of the file of a database and, where there is one, of a query over it, whether that may have temporal operators, and whether times are civil ones
pub record FilesLinted : Type 0 where
  pub database : Text
  pub query : Option Text
  pub tense : Bool
  pub civil : Bool

-- what is asked: files by their names, caps and limits, a window, a token, whether lines are in JSON, a seed and a size; and last, for `ask` whether the canonical answer is told and how the answer's relation is called, for `decide` whether times are shown as dates, for `check` whether times are civil ones, and for `watch` how a query that isn't in kept form is planned, and whether one is watched
pub data Task : Type 0 where
  ask : FilesAsked → ℕ → Bool → Text → Task
  decide : FilesAsked → ℕ → Bool → Task
  list : FilesAsked → ℤ → ℤ → ℕ → Option Text → Bool → ℕ → Task
  count : FilesAsked → ℤ → ℤ → ℕ → Task
  ranges : FilesAsked → ℤ → ℤ → ℕ → Bool → ℕ → Task
  explain : FilesAsked → Task
  check : Text → Bool → Task
  lint : FilesLinted → Task
  watch : Text → Text → Text → ℕ → Planning → Bool → Task
  sample : ℕ → ℕ → Task

-- the text of a token, where one is given
abbrev pub after_text : Option (Bor Text) → Option Text
after_text None = None
after_text (Some text) = Some text.now

-- what the program's question of files has
abbrev pub asked_files : QuestionFiles → FilesAsked
asked_files files = record { database = files.database.now; query = files.query.now; way = files.planning; tense = files.tense; wide = files.wide; civil = files.civil }

-- what the program looks over
abbrev pub linted_files : LintFiles → FilesLinted
linted_files files = record { database = files.database.now; query = after_text files.query; tense = files.tense; civil = files.civil }

-- what a question of files is asked for
abbrev pub asked_task : FilesAsked → Purpose → Task
asked_task of Explained = explain of
asked_task of (Answer cap canon name) = ask of cap canon name.now
asked_task of (Witness cap dates) = decide of cap dates
asked_task of (Page p) = list of p.from p.to p.limit (after_text p.after) p.json p.cap
asked_task of (Count c) = count of c.from c.to c.cap
asked_task of (Ranges r) = ranges of r.from r.to r.limit r.json r.cap

-- what a command of the program asks
abbrev pub task_of : Command → Task
task_of (Question asked) = asked_task (asked_files asked.files) asked.purpose
task_of (Check db civil) = check db.now civil
task_of (Lint files) = lint (linted_files files)
task_of (Watch db query edits cap planning auto) = watch db.now query.now edits.now cap planning auto
task_of (Sample seed size) = sample seed size

-- a purpose that shows times shows them as dates where its flag says so
abbrev pub HasCivil : Bool → Purpose → Type 0
HasCivil civil (Page p) = p.civil ≡ civil
HasCivil civil (Count c) = c.civil ≡ civil
HasCivil civil (Ranges r) = r.civil ≡ civil
HasCivil civil _ = Unit {0}

-- where the command asks a question, its purpose takes times as its files do
abbrev pub HasCivilOfFiles : Command → Type 0
HasCivilOfFiles (Question asked) = HasCivil asked.files.civil asked.purpose
HasCivilOfFiles _ = Unit {0}

-- the same where there may be no command
abbrev pub tasks_of : Option Command → Option Task
tasks_of None = None
tasks_of (Some command) = Some (task_of command)

-- what follows from a value, if there is one
abbrev pub with_some : {A B : Type 0} → Option A → (A → Option B) → Option B
with_some found rest = option_and_then rest found

-- the name of a file, which is not empty
abbrev pub file : Option Text → Option Text
file None = None
file (Some []) = None
file (Some (b ∷ bs)) = Some (b ∷ bs)

-- the same where it may be left out
abbrev pub optional_file : Option Text → Option (Option Text)
optional_file None = Some None
optional_file (Some []) = None
optional_file (Some (b ∷ bs)) = Some (Some (b ∷ bs))

-- a number from low to high
abbrev pub number_in : ℕ → ℕ → Option Text → Option ℕ
number_in low high None = None
number_in low high (Some text) = within low high (natural text)

-- the same, with a default where the key is not given
abbrev pub number_or : ℕ → ℕ → ℕ → Option Text → Option ℕ
number_or default low high None = Some default
number_or default low high (Some text) = within low high (natural text)

-- an end of a window: an integer whose magnitude is at most the greatest number, or where times are civil ones the minute of a date
abbrev pub end_of : Bool → Option Text → Option ℤ
end_of civil None = None
end_of false (Some text) = integer_up_to greatest_number text
end_of true (Some text) = minute_by text

-- whether a value is `yes`; it is `no` where it is not given
abbrev pub flag_of : Option Text → Option Bool
flag_of None = Some false
flag_of (Some text) = if bytes_eq text (codes "yes") then Some true else if bytes_eq text (codes "no") then Some false else None

-- whether the form is JSON; it is plain where it is not given
abbrev pub json_of : Option Text → Option Bool
json_of None = Some false
json_of (Some text) = if bytes_eq text (codes "plain") then Some false else if bytes_eq text (codes "json") then Some true else None

-- whether a query that isn't in kept form is watched too; it is not where it is not given
abbrev pub auto_of : Option Text → Option Bool
auto_of None = Some false
auto_of (Some text) = if bytes_eq text (codes "yes") then Some false else if bytes_eq text (codes "auto") then Some true else None

-- whether times are shown as dates, which they are only where they are civil ones; they are shown as minutes where it is not given
abbrev pub dates_of : Bool → Option Text → Option Bool
dates_of civil None = Some false
dates_of civil (Some text) = if bytes_eq text (codes "minutes") then Some false else if bytes_eq text (codes "dates") && civil then Some true else None

-- how a query is planned; as it is written where it is not given
abbrev pub planning_of : Option Text → Option Planning
planning_of None = Some Written
planning_of (Some text) = if bytes_eq text (codes "written") then Some Written else if bytes_eq text (codes "guarded") then Some Guarded else None

-- a billion cells at most, and a million by default
abbrev pub cap_of : List Text → Option ℕ
cap_of words = number_or 1000000 1 1000000000 (value_for Cap words)

-- a million lines at most, and a thousand by default
abbrev pub limit_of : List Text → Option ℕ
limit_of words = number_or 1000 1 1000000 (value_for Limit words)

-- how the query is planned
abbrev pub planning_in : List Text → Option Planning
planning_in words = planning_of (value_for Plan words)

-- the files of a database, a query and edits
abbrev pub database_name : List Text → Option Text
database_name words = file (value_for Db words)

abbrev pub query_name : List Text → Option Text
query_name words = file (value_for Query words)

abbrev pub edits_name : List Text → Option Text
edits_name words = file (value_for Edits words)

-- whether the query may have temporal operators
abbrev pub tense_flag : List Text → Option Bool
tense_flag words = flag_of (value_for Tense words)

-- whether the query is in the wide language
abbrev pub wide_flag : List Text → Option Bool
wide_flag words = flag_of (value_for Wide words)

-- whether the canonical answer is told
abbrev pub canon_of : List Text → Option Bool
canon_of words = flag_of (value_for Canon words)

-- whether the first of the tokens is the name that all of the text spells
abbrev pub spells_name : Text → Tokens → Bool
spells_name text [] = false
spells_name text (t ∷ ts) = is_token_named text t

-- the text is a name of the grammar, and no longer than a file
abbrev pub is_name_of : Text → Bool
is_name_of text = nat_le (length text) most_bytes && spells_name text (tokens text)

-- the name of the answer's relation, which is `answer` where it is not given
abbrev pub name_given : Option Text → Option Text
name_given None = Some (codes "answer")
name_given (Some text) = if is_name_of text then Some text else None

abbrev pub relation_name_of : List Text → Option Text
relation_name_of words = name_given (value_for As words)

-- whether times are civil ones
abbrev pub civil_of : List Text → Option Bool
civil_of words = flag_of (value_for Civil words)

-- what each question of files has
abbrev pub files_in : List Text → Option FilesAsked
files_in words =
    with_some (database_name words) (λ db. with_some (query_name words) (λ query. with_some (planning_in words) (λ planning. with_some (tense_flag words) (λ tense. with_some (wide_flag words) (λ wide. with_some (civil_of words) (λ civil.
    Some (record { database = db; query = query; way = planning; tense = tense; wide = wide; civil = civil })))))))

-- what is looked over
abbrev pub files_to_lint : List Text → Option FilesLinted
files_to_lint words =
    with_some (database_name words) (λ db. with_some (optional_file (value_for Query words)) (λ query. with_some (tense_flag words) (λ tense. with_some (civil_of words) (λ civil.
    Some (record { database = db; query = query; tense = tense; civil = civil })))))

-- ---- each command from the words after its name, and its keys

abbrev pub ask_of : List Text → Option Task
ask_of words = with_some (files_in words) (λ of. with_some (cap_of words) (λ cap. with_some (canon_of words) (λ canon. with_some (relation_name_of words) (λ name. Some (ask of cap canon name)))))

abbrev pub ask_keys : List Key
ask_keys = Db ∷ Query ∷ Cap ∷ Plan ∷ Tense ∷ Wide ∷ Canon ∷ As ∷ Civil ∷ []

abbrev pub decide_of : List Text → Option Task
decide_of words = with_some (files_in words) (λ of. with_some (cap_of words) (λ cap. with_some (dates_of of.civil (value_for Show words)) (λ dates. Some (decide of cap dates))))

abbrev pub decide_keys : List Key
decide_keys = Db ∷ Query ∷ Cap ∷ Plan ∷ Tense ∷ Wide ∷ Civil ∷ Show ∷ []

abbrev pub list_of : List Text → Option Task
list_of words =
    with_some (files_in words) (λ of. with_some (end_of of.civil (value_for From words)) (λ from. with_some (end_of of.civil (value_for To words)) (λ to.
    with_some (limit_of words) (λ limit. with_some (json_of (value_for Form words)) (λ json. with_some (cap_of words) (λ cap. Some (list of from to limit (value_for After words) json cap)))))))

abbrev pub list_keys : List Key
list_keys = Db ∷ Query ∷ From ∷ To ∷ Limit ∷ After ∷ Form ∷ Cap ∷ Plan ∷ Tense ∷ Wide ∷ Civil ∷ []

abbrev pub counting_of : List Text → Option Task
counting_of words =
    with_some (files_in words) (λ of. with_some (end_of of.civil (value_for From words)) (λ from. with_some (end_of of.civil (value_for To words)) (λ to.
    with_some (cap_of words) (λ cap. Some (count of from to cap)))))

abbrev pub count_keys : List Key
count_keys = Db ∷ Query ∷ From ∷ To ∷ Cap ∷ Plan ∷ Tense ∷ Wide ∷ Civil ∷ []

abbrev pub ranges_of : List Text → Option Task
ranges_of words =
    with_some (files_in words) (λ of. with_some (end_of of.civil (value_for From words)) (λ from. with_some (end_of of.civil (value_for To words)) (λ to.
    with_some (limit_of words) (λ limit. with_some (json_of (value_for Form words)) (λ json. with_some (cap_of words) (λ cap. Some (ranges of from to limit json cap)))))))

abbrev pub ranges_keys : List Key
ranges_keys = Db ∷ Query ∷ From ∷ To ∷ Limit ∷ Form ∷ Cap ∷ Plan ∷ Tense ∷ Wide ∷ Civil ∷ []

abbrev pub explain_of : List Text → Option Task
explain_of words = with_some (files_in words) (λ of. Some (explain of))

abbrev pub explain_keys : List Key
explain_keys = Db ∷ Query ∷ Plan ∷ Tense ∷ Wide ∷ Civil ∷ []

abbrev pub check_of : List Text → Option Task
check_of words = with_some (database_name words) (λ db. with_some (civil_of words) (λ civil. Some (check db civil)))

abbrev pub check_keys : List Key
check_keys = Db ∷ Civil ∷ []

abbrev pub lint_of : List Text → Option Task
lint_of words = with_some (files_to_lint words) (λ files. Some (lint files))

abbrev pub lint_keys : List Key
lint_keys = Db ∷ Query ∷ Tense ∷ Civil ∷ []

abbrev pub watch_of : List Text → Option Task
watch_of words =
    with_some (database_name words) (λ db. with_some (query_name words) (λ query. with_some (edits_name words) (λ edits. with_some (cap_of words) (λ cap.
    with_some (planning_in words) (λ planning. with_some (auto_of (value_for Kept words)) (λ auto. Some (watch db query edits cap planning auto)))))))

abbrev pub watch_keys : List Key
watch_keys = Db ∷ Query ∷ Edits ∷ Cap ∷ Kept ∷ Plan ∷ []

abbrev pub sample_of : List Text → Option Task
sample_of words = with_some (number_in 0 1000000 (value_for Seed words)) (λ seed. with_some (number_in 1 500 (value_for Size words)) (λ size. Some (sample seed size)))

abbrev pub sample_keys : List Key
sample_keys = Seed ∷ Size ∷ []

-- a task, where the words give its keys alone, each at most once
abbrev pub over : List Key → List Text → Option Task → Option Task
over keys words task = if are_given keys words then task else None

-- the task that words spell
abbrev pub command : List Text → Option Task
command [] = None
command (name ∷ words) =
    if bytes_eq name (codes "ask") then over ask_keys words (ask_of words) else
    if bytes_eq name (codes "decide") then over decide_keys words (decide_of words) else
    if bytes_eq name (codes "list") then over list_keys words (list_of words) else
    if bytes_eq name (codes "count") then over count_keys words (counting_of words) else
    if bytes_eq name (codes "ranges") then over ranges_keys words (ranges_of words) else
    if bytes_eq name (codes "explain") then over explain_keys words (explain_of words) else
    if bytes_eq name (codes "check") then over check_keys words (check_of words) else
    if bytes_eq name (codes "lint") then over lint_keys words (lint_of words) else
    if bytes_eq name (codes "watch") then over watch_keys words (watch_of words) else
    if bytes_eq name (codes "sample") then over sample_keys words (sample_of words) else None
