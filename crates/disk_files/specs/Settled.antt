-- When a write to a file shows in what the disk reports of it. A change through a mapping may never show.
use Rattle.std.specs.Prelude.{ℕ, ℤ, pos, negsuc, ◌+◌, ◌*◌, ◌<◌, Option, Some, None, IsSomeAnd}

-- the file was left alone for more than two seconds after it was changed; both times are nanoseconds since 1970
abbrev pub IsSettled : ℕ → ℕ → Type 0
IsSettled changed now = changed + 2000000000 < now

-- a time in seconds and nanoseconds since 1970, in nanoseconds; there is none before 1970
abbrev pub moment : ℤ × ℤ → Option ℕ
moment (pos seconds, pos nanos) = Some (seconds * 1000000000 + nanos)
moment (pos seconds, negsuc n) = None
moment (negsuc n, nanos) = None

-- the same for a file that was changed at such a time
abbrev pub IsSettledSince : ℤ × ℤ → ℕ → Type 0
IsSettledSince changed now = IsSomeAnd (moment changed) (λ moment. IsSettled moment now)
