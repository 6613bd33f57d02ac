-- The names of files and of hosts. Own: fewer than RFC 9110 allows (sections 4.2 and 7.2).
use Rattle.std.specs.Prelude.{ℕ, Bool, ◌&&◌, ◌||◌, ◌==◌, nat_lt, nat_le, List, length}
use Rattle.std.specs.List.{list_all}
use Rattle.std.specs.Char.{is_ascii_alphanumeric}
use Rattle.http_fields.specs.declared.limits.TheConstants.{NAME_LIMIT, HOST_LIMIT}

-- a letter, a digit, or one of `._-/`
abbrev pub is_name_byte : ℕ → Bool
is_name_byte b = is_ascii_alphanumeric b || b == 46 || b == 95 || b == 45 || b == 47

-- a file's name: 1 to 200 such bytes
abbrev pub is_name : List ℕ → Bool
is_name name = nat_lt 0 (length name) && nat_le (length name) NAME_LIMIT && list_all is_name_byte name

-- a letter, a digit, or one of `.-:`
abbrev pub is_host_byte : ℕ → Bool
is_host_byte b = is_ascii_alphanumeric b || b == 46 || b == 45 || b == 58

-- a host's name: 1 to 64 such bytes
abbrev pub is_host : List ℕ → Bool
is_host host = nat_lt 0 (length host) && nat_le (length host) HOST_LIMIT && list_all is_host_byte host
