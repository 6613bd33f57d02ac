-- How long a client's requests are at most.
use Rattle.std.proofs.Common.{◌≡◌, ℕ, ◌≤◌, List, [], length, Some, sym, ap, subst, ◌∙◌}
use Rattle.std.specs.Global.{Vec}
use Rattle.std.specs.Prelude.{IsTrue}
use Rattle.std.proofs.lemmas.Option.{same_Some}
use Rattle.extents.specs.declared.span.Span.{Span}
use Rattle.http_fields.specs.Names.{is_host, is_name}
use Rattle.http_fields.specs.Text.{FieldLine}
use Rattle.http_range.specs.Ask.{CanAsk, CanCheck, check_with, request_with}
use Rattle.http_range.specs.Laws.{RequestsAreShort}
use Rattle.cog_client.specs.declared.request_options.TheConstants.{REQUEST_LIMIT, URL_REQUEST_LIMIT}
use Rattle.cog_client.specs.Calls.{request_for}
use Rattle.cog_client.specs.Client.{ClientState, IsPlain, closes, fields_of, host_of, name_of, tag_of}

-- a text has no more bytes than there is room for in a request of this client, where it is plain
abbrev pub IsShort : ClientState → Vec ℕ → Type 0
IsShort c text = IsPlain c → length text.items ≤ REQUEST_LIMIT

-- or in that of any client
abbrev pub IsWithin : Vec ℕ → Type 0
IsWithin text = length text.items ≤ URL_REQUEST_LIMIT

module _ (laws : RequestsAreShort) where
  module _ (c : ClientState) (span : Span) (text : Vec ℕ) (is : Some text.items ≡ request_for c (Some span)) (can : CanAsk (host_of c) (name_of c) (fields_of c) span.first span.last (tag_of c)) where
    pub within_by : IsWithin text
    within_by =
        subst (λ (xs : List ℕ). length xs ≤ URL_REQUEST_LIMIT) (sym (same_Some _ _ is))
        (laws.asked (closes c) (host_of c) (name_of c) (fields_of c) span.first span.last (tag_of c) can)

    pub short_by : IsShort c text
    short_by plain =
        let none = plain.2 in
        let own : CanAsk (host_of c) (name_of c) [] span.first span.last (tag_of c) =
        subst (λ (fields : List FieldLine). CanAsk (host_of c) (name_of c) fields span.first span.last (tag_of c)) none can in
        let same = same_Some _ _ is ∙ ap (λ (fields : List FieldLine). request_with (closes c) (host_of c) (name_of c) fields span.first span.last (tag_of c)) none in
        subst (λ (xs : List ℕ). length xs ≤ REQUEST_LIMIT) (sym same)
        (laws.plain (closes c) (host_of c) (name_of c) span.first span.last (tag_of c) plain.0 plain.1 own)

  -- and a check
  pub check_within : (host name : List ℕ) (extra : List FieldLine) (tag : List ℕ) → CanCheck host name extra tag → length (check_with host name extra tag) ≤ URL_REQUEST_LIMIT
  check_within host name extra tag can = laws.checked host name extra tag can

  pub check_short : (host name : List ℕ) (extra : List FieldLine) (tag : List ℕ) → CanCheck host name extra tag → IsTrue (is_host host) → IsTrue (is_name name) → extra ≡ []
      → length (check_with host name extra tag) ≤ REQUEST_LIMIT
  check_short host name extra tag can hosted named none =
      let own : CanCheck host name [] tag = subst (λ (fields : List FieldLine). CanCheck host name fields tag) none can in
      subst (λ (fields : List FieldLine). length (check_with host name fields tag) ≤ REQUEST_LIMIT) (sym none) (laws.plain_check host name tag hosted named own)
