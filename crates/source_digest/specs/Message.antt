-- What the digests of a source are of.
use Rattle.std.specs.Prelude.{ℕ, Bool, if◌then◌else◌, List, [], ◌∷◌, ◌++◌, length, Option, Some, None, ◌==◌}
use Rattle.std.specs.Int.{w32, to_be_bytes}
use Rattle.std.specs.List.{flat_map, slice_split}
use Rattle.sha2.specs.Sha256.{sha256}
use Rattle.journal.specs.declared.digests.Digests.{Digests}
use Rattle.source_digest.specs.declared.Named.{Named}

-- four bytes, the greatest first
abbrev pub number : ℕ → List ℕ
number n = to_be_bytes w32 n

-- a text behind its length
unfoldable pub sized : List ℕ → List ℕ
sized text = number (length text) ++ text

unfoldable pub sized_file : Named → List ℕ
sized_file file = sized file.name.now ++ sized file.bytes.now

unfoldable pub files_text : List Named → List ℕ
files_text files = number (length files) ++ flat_map sized_file files

-- the kind, the files, the names of the entries, and the most rounds
unfoldable pub message : ℕ → List Named → List (List ℕ) → ℕ → List ℕ
message kind files names rounds = number kind ++ files_text files ++ number (length names) ++ flat_map sized names ++ number rounds

-- the same of version 1, for one entry
unfoldable pub old_message : List Named → List ℕ → ℕ → List ℕ
old_message files name rounds = number 1 ++ files_text files ++ sized name ++ number rounds

abbrev pub old_of : List Named → List (List ℕ) → ℕ → Option (List ℕ)
old_of files (name ∷ []) rounds = Some (sha256 (old_message files name rounds))
old_of files [] rounds = None
old_of files (name ∷ other ∷ names) rounds = None

abbrev pub digests_of : List Named → List ℕ → ℕ → Bool → Digests
digests_of files entry rounds redirected =
    let names = slice_split (λ b. b == 44) entry in
    record {
      current = sha256 (message (if redirected then 3 else 2) files names rounds);
      old = if redirected then None else old_of files names rounds;
    }
