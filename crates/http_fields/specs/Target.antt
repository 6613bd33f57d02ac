-- What a URL asks for, by RFC 3986. It gives the target of a request in origin-form (RFC 9112, section 3.2.1), and the host and port of the
-- Host field (RFC 9110, section 7.2). Own: their lengths are bounded. There is no userinfo (RFC 9110, section 4.2.4).
use Rattle.std.specs.Prelude.{◌≡◌, ◌<◌, ◌+◌, ℕ, ◌&&◌, ◌||◌, ◌==◌, ◌⊎◌, Bool, true, false, not, IsTrue, List, [], ◌∷◌, length, take, drop, nat_lt, nat_le, nat_eq, codes}
use Rattle.std.specs.List.{list_all, list_any, position_or_len, starts_with}
use Rattle.std.specs.Char.{is_ascii_alphanumeric, is_ascii_digit, is_ascii_hexdigit}
use Rattle.std.specs.Net.Grammar.{IsIpv6Text}
use Rattle.std.specs.declared.net.ipv6_addr.Ipv6Addr.{Ipv6Addr}
use Rattle.http_fields.specs.declared.limits.TheConstants.{TARGET_LIMIT, AUTHORITY_LIMIT}

-- ---- the target

-- unreserved, sub-delims, or the `%` of what is percent-encoded (RFC 3986, sections 2.1 to 2.3): a character of a host's name
abbrev pub is_name_char : ℕ → Bool
is_name_char b = is_ascii_alphanumeric b || list_any (λ c. c == b) (codes "-._~!$&'()*+,;=%")

-- one of those, or `:`, `@`, `/` or `?`: a character of a path or a query (sections 3.3 and 3.4)
abbrev pub is_target_char : ℕ → Bool
is_target_char b = is_name_char b || list_any (λ c. c == b) (codes ":@/?")

-- the text begins with two hexadecimal digits
abbrev pub begins_with_hex : List ℕ → Bool
begins_with_hex (h ∷ l ∷ rest) = is_ascii_hexdigit h && is_ascii_hexdigit l
begins_with_hex rest = false

-- if the byte is `%`, two hexadecimal digits follow (section 2.1)
abbrev pub is_whole_before : ℕ → List ℕ → Bool
is_whole_before b rest = not (b == 37) || begins_with_hex rest

-- so it is with each `%`
abbrev pub are_escapes_whole : List ℕ → Bool
are_escapes_whole [] = true
are_escapes_whole (b ∷ rest) = is_whole_before b rest && are_escapes_whole rest

-- absolute-path [ "?" query ], at most 2,048 bytes
abbrev pub is_target : List ℕ → Bool
is_target text =
    nat_le (length text) TARGET_LIMIT && starts_with nat_eq text (codes "/") && list_all is_target_char text && are_escapes_whole text

-- ---- the host and the port

-- a character of host and port: of a name, of an address in brackets, or a colon
abbrev pub is_authority_char : ℕ → Bool
is_authority_char b = is_name_char b || list_any (λ c. c == b) (codes ":[]")

-- 1 to 255 such characters
abbrev pub is_authority_text : List ℕ → Bool
is_authority_text text = nat_lt 0 (length text) && nat_le (length text) AUTHORITY_LIMIT && list_all is_authority_char text

-- reg-name (section 3.2.2), as which an IPv4 address is written, too; it isn't empty (RFC 9110, section 4.2.1)
abbrev pub is_reg_name : List ℕ → Bool
is_reg_name text = nat_lt 0 (length text) && list_all is_name_char text && are_escapes_whole text

-- nothing, or a colon and any number of digits, even none (section 3.2.3)
abbrev pub is_port_part : List ℕ → Bool
is_port_part [] = true
is_port_part (b ∷ digits) = b == 58 && list_all is_ascii_digit digits

-- a name, which ends before the first colon, and then a port or none
abbrev pub is_named_host : List ℕ → Bool
is_named_host text =
    let n = position_or_len (λ b. b == 58) text in is_reg_name (take n text) && is_port_part (drop n text)

-- an IPv6 address (section 3.2.2; RFC 4291, section 2.2)
abbrev pub IsAddress : List ℕ → Type 0
IsAddress text = (address : Ipv6Addr) × IsIpv6Text text address

-- what follows an opening bracket: an IPv6 address, the closing bracket, and then a port or none
abbrev pub IsBracketed : List ℕ → Type 0
IsBracketed text =
    let n = position_or_len (λ b. b == 93) text in
    (n < length text) × IsAddress (take n text) × IsTrue (is_port_part (drop (n + 1) text))

-- IP-literal, and then a port or none
abbrev pub IsLiteralHost : List ℕ → Type 0
IsLiteralHost [] = ⊥
IsLiteralHost (b ∷ rest) = (b ≡ 91) × IsBracketed rest

-- host [ ":" port ], of 1 to 255 bytes
abbrev pub IsAuthority : List ℕ → Type 0
IsAuthority text = IsTrue (is_authority_text text) × (IsTrue (is_named_host text) ⊎ IsLiteralHost text)
