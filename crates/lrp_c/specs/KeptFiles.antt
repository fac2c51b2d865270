-- What a file of a session holds.
use Rattle.std.specs.Prelude.{◌≡◌, ℕ, List}
use Rattle.lrp_top.specs.Keeping.{IsDatabaseKept, IsReadFor}
use Rattle.lrp_words.specs.declared.purpose.Asked.{Asked}
use Rattle.lrp_top.specs.declared.keeping.KeptDatabase.{KeptDatabase}
use Rattle.lrp_c.specs.declared.kept_file.Content.{Content}
use Rattle.lrp_c.specs.declared.kept_file.Content.TheVariants.{Bytes, Database}

-- the bytes of a file
abbrev pub content_bytes : Content → List ℕ
content_bytes (Bytes bytes) = bytes
content_bytes (Database kept) = kept.file.bytes

-- a database in place of bytes was read of them
abbrev pub IsContent : Content → Type 0
IsContent (Bytes bytes) = Unit {0}
IsContent (Database kept) = IsDatabaseKept kept

-- the database was read of these bytes, as the question reads it
pub record IsReadOf (asked : Asked) (bytes : List ℕ) (kept : KeptDatabase) : Type 0 where
  pub kept_is : IsDatabaseKept kept
  pub reads : IsReadFor asked kept
  pub bytes_are : kept.file.bytes ≡ bytes
