-- The text of a description.
use Rattle.std.specs.Prelude.{◌≡◌, ℕ, Bool, ◌&&◌, IsTrue, nat_le, List, ◌++◌, codes}
use Rattle.std.specs.List.{list_all}
use Rattle.json.specs.Layout.{pretty}
use Rattle.json.specs.Lex.{tokens}
use Rattle.text_report.specs.InfoText.{IsOfTag}

-- the text is laid out as JSON is, with lines and indents
abbrev pub IsJson : List ℕ → Type 0
IsJson text = text ≡ pretty (tokens text)

-- it is such a text, with the end of a line after it
pub record IsLine (P : List ℕ → Type 0) (text : List ℕ) : Type 0 where
  pub line : List ℕ
  pub is : P line
  pub ends : text ≡ line ++ codes "\n"

-- a visible character of ASCII
abbrev pub is_visible : ℕ → Bool
is_visible byte = nat_le 0x21 byte && nat_le byte 0x7E

-- The first line of a text names this ETag as it is, if all its bytes are visible characters of ASCII. If not, it names some text.
pub record NamesTag (tag text : List ℕ) : Type 0 where
  pub named : List ℕ
  pub line : IsOfTag named text
  pub same : IsTrue (list_all is_visible tag) → named ≡ tag
