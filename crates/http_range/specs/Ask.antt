-- A client's requests. It asks for a range of a file, or checks whether the file is still the same (RFC 9110, sections 13.1.2, 13.1.5
-- and 14.2; RFC 9112, section 3).
use Rattle.std.specs.Prelude.{ℕ, ◌^◌, ◌<◌, Bool, true, IsTrue, IfSome, List, [], ◌∷◌, ◌++◌, codes, decimal, Option, option_map}
use Rattle.std.specs.Option.{option_to_list}
use Rattle.http_fields.specs.Tag.{is_kept_tag}
use Rattle.http_fields.specs.Target.{is_authority_text, is_target}
use Rattle.http_fields.specs.RequestFields.{AreExtra}
use Rattle.http_fields.specs.Text.{FieldLine, head_with, closing}
use Rattle.http_range.specs.Seen.{SeenRequest}

-- `METHOD /NAME HTTP/1.1`, with the target in origin-form
abbrev pub request_line : List ℕ → List ℕ → List ℕ
request_line method name = method ++ codes " /" ++ name ++ codes " HTTP/1.1"

-- `bytes=A-B`
unfoldable pub range_value : ℕ → ℕ → List ℕ
range_value first last = codes "bytes=" ++ decimal first ++ codes "-" ++ decimal last

-- the condition that the file still has this ETag
abbrev pub if_range : Option (List ℕ) → List FieldLine
if_range tag = option_to_list (option_map (λ t. (codes "If-Range", t)) tag)

-- The fields of a request for the bytes `first` to `last`. If the client has a revision, `tag` is its ETag. `extra` are the fields that
-- the caller adds. With `close` the connection ends with the answer.
abbrev pub request_fields : Bool → List ℕ → List FieldLine → ℕ → ℕ → Option (List ℕ) → List FieldLine
request_fields close host extra first last tag =
    (codes "Host", host) ∷ (codes "Range", range_value first last) ∷ (if_range tag ++ (extra ++ closing close))

-- the text of that request, which ends the connection if `close` is set
abbrev pub request_with : Bool → List ℕ → List ℕ → List FieldLine → ℕ → ℕ → Option (List ℕ) → List ℕ
request_with close host name extra first last tag =
    head_with (request_line (codes "GET") name) (request_fields close host extra first last tag)

-- the same without fields that a caller adds
abbrev pub request_by : Bool → List ℕ → List ℕ → ℕ → ℕ → Option (List ℕ) → List ℕ
request_by close host name first last tag = request_with close host name [] first last tag

-- what a request may be made with: `host` and `name` may stand in it, as all do for which `is_host` and `is_name` hold
pub record CanAsk (host name : List ℕ) (extra : List FieldLine) (first last : ℕ) (tag : Option (List ℕ)) : Type 0 where
  pub to_host : IsTrue (is_authority_text host)
  pub of_name : IsTrue (is_target (47 ∷ name))
  pub adds : AreExtra extra
  pub from_first : first < 2 ^ 64
  pub to_last : last < 2 ^ 64
  pub kept : IfSome tag (λ t. IsTrue (is_kept_tag t))

-- what a server reads of this request
abbrev pub asked_request : Bool → List ℕ → List ℕ → List FieldLine → ℕ → ℕ → Option (List ℕ) → SeenRequest
asked_request close host name extra first last tag = record {
  method = codes "GET";
  target = codes "/" ++ name;
  minor = 1;
  fields = request_fields close host extra first last tag;
}

-- ---- the check

-- the fields of a check whether the file still has the client's ETag, with those that the caller adds
abbrev pub check_fields : List ℕ → List FieldLine → List ℕ → List FieldLine
check_fields host extra tag = (codes "Host", host) ∷ (codes "If-None-Match", tag) ∷ (extra ++ closing true)

-- the text of the check
abbrev pub check_with : List ℕ → List ℕ → List FieldLine → List ℕ → List ℕ
check_with host name extra tag = head_with (request_line (codes "HEAD") name) (check_fields host extra tag)

-- the same without fields that a caller adds
abbrev pub check_text : List ℕ → List ℕ → List ℕ → List ℕ
check_text host name tag = check_with host name [] tag

-- what a check may be made with
pub record CanCheck (host name : List ℕ) (extra : List FieldLine) (tag : List ℕ) : Type 0 where
  pub to_host : IsTrue (is_authority_text host)
  pub of_name : IsTrue (is_target (47 ∷ name))
  pub adds : AreExtra extra
  pub kept : IsTrue (is_kept_tag tag)

-- what a server reads of the check
abbrev pub checked_request : List ℕ → List ℕ → List FieldLine → List ℕ → SeenRequest
checked_request host name extra tag = record {
  method = codes "HEAD";
  target = codes "/" ++ name;
  minor = 1;
  fields = check_fields host extra tag;
}
