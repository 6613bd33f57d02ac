-- Why no answer of a server is used.
use Rattle.std.specs.Prelude.{ℕ, ◌==◌, ◌||◌, Bool, true, false}
use Rattle.http_range.specs.declared.reading.Why.{Why}
use Rattle.http_range.specs.declared.reading.Why.TheVariants.{Status, NoTag, WeakTag, TagTooLong}

-- The file is elsewhere, or the server doesn't take the request, doesn't give the file, or has none (RFC 9110, sections 15.4 and 15.5).
abbrev pub is_lasting_status : ℕ → Bool
is_lasting_status n = (n == 301) || (n == 302) || (n == 303) || (n == 307) || (n == 308)
    || (n == 400) || (n == 401) || (n == 403) || (n == 404) || (n == 410)

-- a reason that is expected to stay: such a status code, or no ETag that can be used
abbrev pub is_lasting : Why → Bool
is_lasting (Status n) = is_lasting_status n
is_lasting NoTag = true
is_lasting WeakTag = true
is_lasting TagTooLong = true
is_lasting why = false
