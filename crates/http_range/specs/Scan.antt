-- How the code finds the end of a message. It reads the text backwards: here the last byte comes first.
use Rattle.std.specs.Prelude.{ℕ, Bool, true, false, ◌&&◌, ◌||◌, ◌==◌, not, if◌then◌else◌, List, [], ◌∷◌, length, reverse}
use Rattle.http_fields.specs.declared.limits.TheConstants.{MESSAGE_LIMIT}

-- the text ends where a line begins
abbrev pub begins_line : List ℕ → Bool
begins_line [] = true
begins_line (b ∷ before) = b == 10

-- its last line is empty so far, or has CR alone
abbrev pub has_empty_line : List ℕ → Bool
has_empty_line [] = true
has_empty_line (b ∷ before) = b == 10 || (b == 13 && begins_line before)

-- it ends with LF, and the line that LF ends isn't empty
abbrev pub ends_line : List ℕ → Bool
ends_line [] = false
ends_line (b ∷ before) = b == 10 && not (has_empty_line before)

abbrev pub without_return : List ℕ → List ℕ
without_return [] = []
without_return (b ∷ before) = if b == 13 then before else b ∷ before

-- it ends with a line that isn't empty, and an empty line after it
abbrev pub ends_head : List ℕ → Bool
ends_head [] = false
ends_head (b ∷ before) = b == 10 && ends_line (without_return before)

-- the text is a message
unfoldable pub is_message : List ℕ → Bool
is_message front = length front == MESSAGE_LIMIT || ends_head (reverse front)
