-- The digest of the files that a page was computed from.
use Rattle.std.specs.Prelude.{ℕ, List, ◌++◌}
use Rattle.sha2.specs.Sha256.{sha256}

-- SHA-256 of the SHA-256 of the database's bytes followed by that of the query's bytes
abbrev pub files_digest : List ℕ → List ℕ → List ℕ
files_digest database query = sha256 (sha256 database ++ sha256 query)
