-- What comes on a connection: answers, and interim answers before them (RFC 9112, sections 2.1 and 9.3.2).
use Rattle.std.specs.Prelude.{◌≡◌, ⊤, ◌⊎◌, ℕ, ◌+◌, ◌<◌, ◌==◌, not, unwrap_or, Bool, true, false, if◌then◌else◌, List, [], ◌∷◌, ◌++◌, length, map, filter, Ok, Err}
use Rattle.http_range.specs.declared.frame.Frame.{Frame}
use Rattle.http_range.specs.declared.reading.Why.TheVariants.{Head}
use Rattle.http_range.specs.Frame.{ReadsFrame, is_interim}

-- how many bytes are taken of an answer: its head and the announced body; of an interim answer, and of one that isn't used, only the head
abbrev pub size_of : Frame → ℕ
size_of frame = if is_interim frame then frame.size else frame.size + unwrap_or frame.length 0

-- the bytes, and what their head says
pub record Answer : Type 0 where
  pub bytes : List ℕ
  pub frame : Frame

-- The bytes are one answer, final or interim, and nothing else.
pub record IsAnswer (a : Answer) : Type 0 where
  pub reads : ReadsFrame a.bytes (Ok a.frame)
  pub whole : length a.bytes ≡ size_of a.frame

abbrev pub AreAnswers : List Answer → Type 0
AreAnswers [] = ⊤
AreAnswers (a ∷ rest) = IsAnswer a × AreAnswers rest

-- the answer is a final one
abbrev pub is_final : Answer → Bool
is_final a = not (is_interim a.frame)

-- the texts of the final answers
abbrev pub finals : List Answer → List (List ℕ)
finals answers = map (λ a. a.bytes) (filter is_final answers)

-- all bytes of the texts, one after another
abbrev pub joined : List (List ℕ) → List ℕ
joined [] = []
joined (t ∷ ts) = t ++ joined ts

abbrev pub bytes_of : List Answer → List ℕ
bytes_of answers = joined (map (λ a. a.bytes) answers)

-- The connection may go on after each of them that is final.
abbrev pub LetGoOn : List Answer → Type 0
LetGoOn [] = ⊤
LetGoOn (a ∷ rest) = (is_final a ≡ true → a.frame.closes ≡ false) × LetGoOn rest

-- Less than an answer came: no whole head, or not the whole body.
abbrev pub IsShort : List ℕ → Type 0
IsShort front = (frame : Frame) → ReadsFrame front (Ok frame) → length front < size_of frame

-- there is no whole head: no answer can be read from these bytes
abbrev pub IsUndecided : List ℕ → Type 0
IsUndecided head = (frame : Frame) → ¬ (ReadsFrame head (Ok frame))

-- the server gave up waiting for a request (RFC 9110, section 15.5.9)
abbrev pub is_timeout : Frame → Bool
is_timeout frame = frame.status == 408

-- These bytes are no answer to a request that was sent on a connection that is kept. They have no head, or status code 408: the server
-- gave up waiting.
abbrev pub IsNoAnswer : List ℕ → Type 0
IsNoAnswer head = ReadsFrame head (Err Head) ⊎ ((frame : Frame) × ReadsFrame head (Ok frame) × (is_timeout frame ≡ true))
