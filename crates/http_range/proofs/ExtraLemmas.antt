-- Lines that a caller adds to a request change nothing of what a server reads of it.
use Rattle.std.proofs.Common.{◌≡◌, ℕ, Bool, true, false, cond, List, [], ◌∷◌, ◌++◌, length, map, drop, refl, ap, ◌∙◌, codes, Option, Some, None}
use Rattle.std.specs.Prelude.{◌||◌, ◌&&◌, ◌==◌, not, nat_eq, filter, option_and_then}
use Rattle.std.specs.List.{list_all, list_any, starts_with}
use Rattle.std.specs.Str.{bytes_eq}
use Rattle.std.proofs.lemmas.Bool.{and_parts, or_parts, false≢true}
use Rattle.httparse.specs.Grammar.{is_token}
use Rattle.http_range.specs.declared.reply.Reply.TheVariants.{R200, R304, R400, R404, R405, R412}
use Rattle.http_fields.specs.Text.{FieldLine}
use Rattle.http_fields.specs.RequestFields.{is_condition, is_extra, is_field_value, is_of_body, is_of_connection, is_reserved, is_written}
use Rattle.http_fields.specs.Fields.{is_named, is_there, only, values_of}
use Rattle.http_fields.specs.Members.{has_member}
use Rattle.http_fields.specs.Conditional.{one_matches}
use Rattle.http_range.specs.Range.{range_spec, resolved_or}
use Rattle.http_range.specs.Book.{Publication, Catalogue, published}
use Rattle.http_range.specs.Seen.{SeenRequest}
use Rattle.http_range.specs.Response.{Response, answer_by, lets_range, refused, serve_file, serve_part, with_tag}

-- ---- the values under a name

module _ (name : List ℕ) (apart : (l : FieldLine) → is_extra l ≡ true → is_named name l ≡ false) where
  past_extra : (extra rest : List FieldLine) → list_all is_extra extra ≡ true → values_of name (extra ++ rest) ≡ values_of name rest
  past_extra [] rest h = refl
  past_extra (l ∷ ls) rest h =
      let parts = and_parts (is_extra l) (list_all is_extra ls) h in
      let later = filter (is_named name) (ls ++ rest) in
      ap (λ (t : Bool). map (λ (field : FieldLine). field.1) (cond t (l ∷ later) later)) (apart l parts.0) ∙ past_extra ls rest parts.1

  values_past : (before extra rest : List FieldLine) → list_all is_extra extra ≡ true
      → values_of name (before ++ (extra ++ rest)) ≡ values_of name (before ++ rest)
  values_past [] extra rest h = past_extra extra rest h
  values_past (b ∷ bs) extra rest h = by (is_named name b) (values_past bs extra rest h)
    where
      by : (t : Bool) → values_of name (bs ++ (extra ++ rest)) ≡ values_of name (bs ++ rest)
          → map (λ (field : FieldLine). field.1) (cond t (b ∷ filter (is_named name) (bs ++ (extra ++ rest))) (filter (is_named name) (bs ++ (extra ++ rest))))
          ≡ map (λ (field : FieldLine). field.1) (cond t (b ∷ filter (is_named name) (bs ++ rest)) (filter (is_named name) (bs ++ rest)))
      by true same = ap (λ (values : List (List ℕ)). b.1 ∷ values) same
      by false same = same

-- ---- an added line has none of the names that a server reads

not_true : (x : Bool) → not x ≡ true → x ≡ false
not_true true h = absurd (false≢true h)
not_true false h = refl

free : (l : FieldLine) → is_extra l ≡ true → is_reserved l.0 ≡ false
free l h =
    let all = and_parts (is_token l.0 && not (is_reserved l.0)) (is_field_value l.1) h in
    not_true (is_reserved l.0) (and_parts (is_token l.0) (not (is_reserved l.0)) all.0).1

not_of_body : (l : FieldLine) → is_extra l ≡ true → is_of_body l.0 ≡ false
not_of_body l h =
    let n = l.0 in
    let front = or_parts (is_written n || is_condition n || is_of_body n) (is_of_connection n) (free l h) in
    (or_parts (is_written n || is_condition n) (is_of_body n) front.0).1

not_condition : (l : FieldLine) → is_extra l ≡ true → (is_written l.0 || is_condition l.0) ≡ false
not_condition l h =
    let n = l.0 in
    let front = or_parts (is_written n || is_condition n || is_of_body n) (is_of_connection n) (free l h) in
    (or_parts (is_written n || is_condition n) (is_of_body n) front.0).0

not_written : (l : FieldLine) → is_extra l ≡ true → is_written l.0 ≡ false
not_written l h = (or_parts (is_written l.0) (is_condition l.0) (not_condition l h)).0

not_host : (l : FieldLine) → is_extra l ≡ true → is_named (codes "Host") l ≡ false
not_host l h = (or_parts _ _ (or_parts _ _ (or_parts _ _ (or_parts _ _ (not_written l h)).0).0).0).0

not_range : (l : FieldLine) → is_extra l ≡ true → is_named (codes "Range") l ≡ false
not_range l h = (or_parts _ _ (or_parts _ _ (or_parts _ _ (or_parts _ _ (not_written l h)).0).0).0).1

not_if_range : (l : FieldLine) → is_extra l ≡ true → is_named (codes "If-Range") l ≡ false
not_if_range l h = (or_parts _ _ (or_parts _ _ (or_parts _ _ (not_written l h)).0).0).1

not_if_none_match : (l : FieldLine) → is_extra l ≡ true → is_named (codes "If-None-Match") l ≡ false
not_if_none_match l h = (or_parts _ _ (or_parts _ _ (not_written l h)).0).1

not_connection : (l : FieldLine) → is_extra l ≡ true → is_named (codes "Connection") l ≡ false
not_connection l h = (or_parts _ _ (not_written l h)).1

not_if_match : (l : FieldLine) → is_extra l ≡ true → is_named (codes "If-Match") l ≡ false
not_if_match l h =
    let is = (or_parts (is_written l.0) (is_condition l.0) (not_condition l h)).1 in (or_parts _ _ (or_parts _ _ is).0).0

not_content_length : (l : FieldLine) → is_extra l ≡ true → is_named (codes "Content-Length") l ≡ false
not_content_length l h = (or_parts _ _ (or_parts _ _ (or_parts _ _ (not_of_body l h)).0).0).0

not_transfer_encoding : (l : FieldLine) → is_extra l ≡ true → is_named (codes "Transfer-Encoding") l ≡ false
not_transfer_encoding l h = (or_parts _ _ (or_parts _ _ (or_parts _ _ (not_of_body l h)).0).0).1

-- ---- so a server answers alike

-- two lists of fields have the same values under each name that a server reads
pub record AreReadAlike (xs ys : List FieldLine) : Type 0 where
  pub host : values_of (codes "Host") xs ≡ values_of (codes "Host") ys
  pub range : values_of (codes "Range") xs ≡ values_of (codes "Range") ys
  pub if_range : values_of (codes "If-Range") xs ≡ values_of (codes "If-Range") ys
  pub if_match : values_of (codes "If-Match") xs ≡ values_of (codes "If-Match") ys
  pub if_none_match : values_of (codes "If-None-Match") xs ≡ values_of (codes "If-None-Match") ys
  pub connection : values_of (codes "Connection") xs ≡ values_of (codes "Connection") ys
  pub content_length : values_of (codes "Content-Length") xs ≡ values_of (codes "Content-Length") ys
  pub transfer_encoding : values_of (codes "Transfer-Encoding") xs ≡ values_of (codes "Transfer-Encoding") ys

pub alike : (before extra rest : List FieldLine) → list_all is_extra extra ≡ true → AreReadAlike (before ++ (extra ++ rest)) (before ++ rest)
alike before extra rest h = record {
  host = values_past (codes "Host") not_host before extra rest h;
  range = values_past (codes "Range") not_range before extra rest h;
  if_range = values_past (codes "If-Range") not_if_range before extra rest h;
  if_match = values_past (codes "If-Match") not_if_match before extra rest h;
  if_none_match = values_past (codes "If-None-Match") not_if_none_match before extra rest h;
  connection = values_past (codes "Connection") not_connection before extra rest h;
  content_length = values_past (codes "Content-Length") not_content_length before extra rest h;
  transfer_encoding = values_past (codes "Transfer-Encoding") not_transfer_encoding before extra rest h;
}

abbrev closes : List (List ℕ) → Bool
closes connection = list_any (has_member (codes "close")) connection

module _ (method target : List ℕ) where
  abbrev seen : List FieldLine → SeenRequest
  seen fields = record { method = method; target = target; minor = 1; fields = fields }

  -- what is answered from a file, by the values that are read
  abbrev serve_by : Publication → List (List ℕ) → List (List ℕ) → List (List ℕ) → List (List ℕ) → List (List ℕ) → Response
  serve_by p connection if_match if_none_match if_range range =
      cond (is_there if_match && not (one_matches if_match p.tag true)) (refused R412 (closes connection))
      (cond (one_matches if_none_match p.tag false) (with_tag p (R304 p.tag) (closes connection) [])
      (cond (bytes_eq method (codes "HEAD")) (with_tag p (R200 p.tag (length p.file)) (closes connection) [])
      (serve_part (resolved_or (option_and_then range_spec (cond (lets_range if_range p.tag) (only range) None)) (length p.file)) p (closes connection))))

  -- what is answered, by the values that are read, and by what is answered from the file
  abbrev answer_with : List (List ℕ) → List (List ℕ) → List (List ℕ) → List (List ℕ) → Response → Response
  answer_with host content_length transfer_encoding connection served =
      cond (not (1 == 1) || not (length host == 1) || (is_there content_length || is_there transfer_encoding)) (refused R400 true)
      (cond (not (bytes_eq method (codes "GET")) && not (bytes_eq method (codes "HEAD"))) (refused R405 (closes connection))
      (cond (not (starts_with nat_eq target (codes "/"))) (refused R400 true) served))

  module _ (xs ys : List FieldLine) (read : AreReadAlike xs ys) where
    serve_alike : (o : Option Publication) → serve_file o (seen xs) ≡ serve_file o (seen ys)
    serve_alike None = λ i. refused R404 (closes (read.connection i))
    serve_alike (Some p) = λ i. serve_by p (read.connection i) (read.if_match i) (read.if_none_match i) (read.if_range i) (read.range i)

    pub answer_alike : (catalogue : Catalogue) → answer_by catalogue (Some (seen xs)) ≡ answer_by catalogue (Some (seen ys))
    answer_alike catalogue =
        let served = serve_alike (published (drop 1 target) catalogue) in
        λ i. answer_with (read.host i) (read.content_length i) (read.transfer_encoding i) (read.connection i) (served i)
