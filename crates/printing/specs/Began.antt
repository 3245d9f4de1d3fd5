-- What the programs read of a file: its first bytes. They print the same of these as of the whole file.
use Rattle.std.specs.Prelude.{ℕ, ◌≡◌, List, take}

-- the bytes read are the first `size` bytes of the file, or all of it where it has no more
pub record Began (file : List ℕ) (size : ℕ) (read : List ℕ) : Type 0 where
  pub is : read ≡ take size file
