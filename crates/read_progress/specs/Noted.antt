-- What callers know of a source whose exchanges are noted.
use Rattle.std.specs.Prelude.{◌≡◌, ◌⊎◌, ◌+◌, ◌-◌, ◌<◌, ◌++◌, ℕ, Bool, true, false, if◌then◌else◌, nat_lt, List, [], Ok, Err, Some, codes, length, min, take}
use Rattle.http_fields.specs.Fields.{only, values_of}
use Rattle.http_range.specs.Announced.{announced}
use Rattle.http_range.specs.Reading.{ReadsHead}
use Rattle.http_range.specs.Seen.{HasRequest, SeenRequest}
use Rattle.http_range.specs.declared.reading.Why.{Why}
use Rattle.read_progress.specs.Lasting.{is_lasting}
use Rattle.read_progress.specs.declared.noted.Came.{Came}
use Rattle.read_progress.specs.declared.noted.Came.TheVariants.{Brought, Nothing, NotUsed, Unsent}
use Rattle.read_progress.specs.declared.noted.Noted.{Noted}
use Rattle.read_progress.specs.declared.noted.Progress.{Progress}

-- the sum of two numbers of 64 bits, or the greatest such number if the sum is above it
abbrev sum : ℕ → ℕ → ℕ
sum a b = min (a + b) 18446744073709551615

-- bytes of a file came
abbrev brings : Came → Bool
brings (Brought head count) = nat_lt 0 count
brings came = false

-- The value of the request's Range field is noted, if it has exactly one. Nothing is noted if it doesn't, or if memory ran out.
abbrev pub NotesRange : List ℕ → List ℕ → Type 0
NotesRange request range =
    (range ≡ [])
    ⊎ ((seen : SeenRequest) × HasRequest request (Some seen) × (only (values_of (codes "range") seen.fields) ≡ Some range))

module _ {R P : Type 0} where
  -- the source whose exchanges are noted
  abbrev pub source_of : Noted R P → P
  source_of s = s.source

  -- what is noted of the last exchange: whether its request was sent, how many bytes came, and the first of them
  abbrev pub sent_of : Noted R P → Bool
  sent_of s = s.is_sent

  abbrev pub bytes_of : Noted R P → ℕ
  bytes_of s = s.bytes

  abbrev pub front_of : Noted R P → List ℕ
  front_of s = s.front.items

  -- the Range field of the last request
  abbrev pub range_of : Noted R P → List ℕ
  range_of s = s.range.items

  -- what the exchanges before the last one brought
  abbrev pub before_of : Noted R P → Progress
  before_of s = s.before

  -- If the front is all that came before, the new bytes are noted after it, as far as a head may go. Or the front stays.
  abbrev pub NotesOf : List ℕ → Noted R P → Noted R P → Type 0
  NotesOf bytes old new =
      ((bytes_of old ≡ length (front_of old)) × (front_of new ≡ front_of old ++ take (4096 - length (front_of old)) bytes))
      ⊎ (front_of new ≡ front_of old)

  -- bytes came, from which the following is read
  abbrev pub Has : Noted R P → Type 0
  Has s = (sent_of s ≡ true) × (0 < bytes_of s)

  -- what came of the last exchange; no more of a body than its head announces
  abbrev pub HasCome : Noted R P → Came → Type 0
  HasCome s Unsent = sent_of s ≡ false
  HasCome s Nothing = (sent_of s ≡ true) × (bytes_of s ≡ 0)
  HasCome s (NotUsed why) = Has s × ReadsHead (front_of s) (Err why)
  HasCome s (Brought head count) =
      Has s × ReadsHead (front_of s) (Ok (announced head)) × (count ≡ min (bytes_of s - head.size) head.length)

  -- the last answer isn't used, for a reason that is expected to stay
  abbrev pub IsRefused : Why → Noted R P → Type 0
  IsRefused why s = HasCome s (NotUsed why) × (is_lasting why ≡ true)

  -- what all exchanges brought: those before the last one, and this one
  abbrev pub HasBrought : Noted R P → Progress → Type 0
  HasBrought s all = (came : Came) × HasCome s came
      × (all.had ≡ sum (before_of s).had (if brings came then 1 else 0))
      × (all.asked ≡ (before_of s).asked)
      × (all.bytes ≡ sum (before_of s).bytes (bytes_of s))

  -- one more range is asked for, and nothing of it has come yet
  abbrev pub AsksMore : Noted R P → Noted R P → Type 0
  AsksMore old new = (all : Progress) × HasBrought old all × (before_of new ≡ record all { asked = sum all.asked 1 })
