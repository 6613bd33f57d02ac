-- The field lines of `--header`.
use Rattle.std.specs.Prelude.{◌≡◌, ◌<◌, ◌≤◌, ◌++◌, ◌==◌, ℕ, List, length, ⊤}
use Rattle.std.specs.Borrow.{Bor}
use Rattle.std.specs.List.{AllZip, after_first, before_first, position_or_len}
use Rattle.std.specs.Str.{IsTrimAscii}
use Rattle.http_fields.specs.Text.{FieldLine}
use Rattle.cog_client.specs.Client.{ClientState, fields_of, how_of}
use Rattle.programs.specs.declared.exit.Exit.{Exit}
use Rattle.programs.specs.declared.exit.Exit.TheVariants.{Memory, NoFieldLine, NotAField}

-- The name stands before the first colon (58), and the value after it, without the white space round the value (RFC 9112, section 5).
pub record IsFieldLine (word : List ℕ) (line : FieldLine) : Type 0 where
  pub colon : position_or_len (λ b. b == 58) word < length word
  pub name : line.0 ≡ before_first (λ b. b == 58) word
  pub value : IsTrimAscii (after_first (λ b. b == 58) word) line.1

-- the word has no colon
abbrev pub IsNoFieldLine : List ℕ → Type 0
IsNoFieldLine word = length word ≤ position_or_len (λ b. b == 58) word

-- The lines of these words are added to requests and checks, in their order, after those that were added before. All else stays.
pub record AddsLines (words : List (Bor (List ℕ))) (old new : ClientState) : Type 0 where
  pub lines : List FieldLine
  pub are : AllZip (λ (word : Bor (List ℕ)) line. IsFieldLine word.now line) words lines
  pub seen : new ≡ record old { how = record (how_of old) { fields = fields_of old ++ lines } }

-- a word is no field line, or one that isn't added, or memory ran out
abbrev pub IsOfHeaders : Exit → Type 0
IsOfHeaders NoFieldLine = ⊤
IsOfHeaders (NotAField name error) = ⊤
IsOfHeaders Memory = ⊤
IsOfHeaders fault = ⊥
