-- The text of a head to which fields are added.
use Rattle.std.proofs.Common.{◌≡◌, ◌&&◌, ℕ, suc, ◌+◌, ◌-◌, Bool, true, false, not, List, [], ◌∷◌, ◌++◌, codes, length, take, Option, None, Some, OnOk, Result, Ok, Err, refl, sym, ap, ◌∙◌, append_assoc, append-nil, length-append, arith, inl, inr}
use Rattle.std.specs.Prelude.{IfOk}
use Rattle.std.specs.Str.{bytes_eq}
use Rattle.std.proofs.lemmas.Bool.{cases_Bool}
use Rattle.std.specs.List.{flat_map}
use Rattle.std.proofs.lemmas.Grind.{flat_map-append}
use Rattle.http_fields.specs.Text.{FieldLine, closing, head_with, line}
use Rattle.http_range.specs.Book.{Catalogue}
use Rattle.http_range.specs.Reply.{fields_of, status_line, status_of}
use Rattle.http_range.specs.Response.{answer_by}
use Rattle.http_range.specs.declared.reply.Reply.{Reply}
use Rattle.http_range.specs.declared.reply.Reply.TheVariants.{R200, R206, R304, R400, R404, R405, R412, R416}
use Rattle.cog_server.specs.Additions.{AddedState, IsSent, Sent, ServiceState, announced, answers_preflight, asks_first, closes_by, origin_fields, preflight_fields, refuses_method, sent_by, sent_preflight, sent_with}
use Rattle.cog_server.specs.Outgoing.{IsOutgoing, waiting_of}
use Rattle.cog_server.specs.Prepared.{IsPrepared, response_of}
use Rattle.cog_server.specs.Status.{tag_of}
use Rattle.cog_server.specs.declared.outgoing.Outgoing.{Outgoing}
use Rattle.cog_server.specs.declared.placed.Prepared.{Prepared}

-- the fields up to the end of a head
pub end_text : (old : List ℕ) (o c : List FieldLine)
    → ((old ++ flat_map line o) ++ flat_map line c) ++ codes "\r\n" ≡ old ++ (flat_map line (o ++ c) ++ codes "\r\n")
end_text old o c =
    append_assoc (old ++ flat_map line o) (flat_map line c) (codes "\r\n") ∙ append_assoc old (flat_map line o) (flat_map line c ++ codes "\r\n")
    ∙ ap (λ (xs : List ℕ). old ++ xs) (sym (append_assoc (flat_map line o) (flat_map line c) (codes "\r\n"))
    ∙ ap (λ (xs : List ℕ). xs ++ codes "\r\n") (sym (flat_map-append line o c)))

take_front : (xs ys : List ℕ) → take (length xs) (xs ++ ys) ≡ xs
take_front [] ys = refl
take_front (x ∷ xs) ys = ap (λ (zs : List ℕ). x ∷ zs) (take_front xs ys)

without_end : (xs : List ℕ) (n : ℕ) → n ≡ length (xs ++ codes "\r\n") - 2 → take n (xs ++ codes "\r\n") ≡ xs
without_end xs n is =
    let count : n ≡ length xs = omega (arith, is, length-append xs (codes "\r\n")) in
    ap (λ (k : ℕ). take k (xs ++ codes "\r\n")) count ∙ take_front xs (codes "\r\n")

-- a head without its last line
abbrev pub begun : (old first : List ℕ) (own : List FieldLine) → List ℕ
begun old first own = old ++ ((first ++ codes "\r\n") ++ flat_map line own)

whole : (old first : List ℕ) (own : List FieldLine) → old ++ head_with first own ≡ begun old first own ++ codes "\r\n"
whole old first own = sym (append_assoc old ((first ++ codes "\r\n") ++ flat_map line own) (codes "\r\n"))

more : (old first : List ℕ) (own rest : List FieldLine)
    → begun old first own ++ (flat_map line rest ++ codes "\r\n") ≡ old ++ head_with first (own ++ rest)
more old first own rest =
    let start = first ++ codes "\r\n" in
    sym (append_assoc (begun old first own) (flat_map line rest) (codes "\r\n"))
    ∙ ap (λ (xs : List ℕ). xs ++ codes "\r\n") (append_assoc old (start ++ flat_map line own) (flat_map line rest)
    ∙ ap (λ (xs : List ℕ). old ++ xs) (append_assoc start (flat_map line own) (flat_map line rest)
    ∙ ap (λ (xs : List ℕ). start ++ xs) (sym (flat_map-append line own rest))))
    ∙ sym (whole old first (own ++ rest))

-- a head, its last line taken off, and what follows its own fields
pub head_more : (old first head : List ℕ) (own rest : List FieldLine) (n : ℕ) → head ≡ old ++ head_with first (own ++ []) → n ≡ length head - 2
    → take n head ++ (flat_map line rest ++ codes "\r\n") ≡ old ++ head_with first (own ++ rest)
head_more old first head own rest n is count =
    let same : head ≡ begun old first own ++ codes "\r\n" =
    is ∙ ap (λ (fs : List FieldLine). old ++ head_with first fs) (append-nil own) ∙ whole old first own in
    let cut : take n head ≡ begun old first own =
    ap (λ (xs : List ℕ). take n xs) same
    ∙ without_end (begun old first own) n (count ∙ ap (λ (xs : List ℕ). length xs - 2) same) in
    ap (λ (xs : List ℕ). xs ++ (flat_map line rest ++ codes "\r\n")) cut ∙ more old first own rest

-- three fields, and what follows them
pub three_more : (old first : List ℕ) (a b c : FieldLine) (rest : List FieldLine)
    → ((((old ++ (first ++ codes "\r\n")) ++ line a) ++ line b) ++ line c) ++ (flat_map line rest ++ codes "\r\n")
    ≡ old ++ head_with first ((a ∷ b ∷ c ∷ []) ++ rest)
three_more old first a b c rest =
    let start = first ++ codes "\r\n" in
    ap (λ (xs : List ℕ). xs ++ (flat_map line rest ++ codes "\r\n"))
    (append_assoc ((old ++ start) ++ line a) (line b) (line c) ∙ append_assoc (old ++ start) (line a) (line b ++ line c)
    ∙ append_assoc old start (line a ++ (line b ++ line c))
    ∙ ap (λ (xs : List ℕ). old ++ (start ++ (line a ++ (line b ++ xs)))) (sym (append-nil (line c))))
    ∙ more old first (a ∷ b ∷ c ∷ []) rest

-- ---- whose pages may read an answer

abbrev pub allowing : List ℕ → List ℕ
allowing origin = line (codes "Access-Control-Allow-Origin", origin)

abbrev pub varying : List ℕ
varying = line (codes "Vary", codes "Origin")

abbrev pub exposing : List ℕ
exposing = line (codes "Access-Control-Expose-Headers", codes "ETag, Content-Range, Content-Length, Accept-Ranges")

pub each_origin : (old origin : List ℕ) → bytes_eq origin (codes "*") ≡ true
    → (old ++ allowing origin) ++ exposing ≡ old ++ flat_map line (origin_fields (Some origin))
each_origin old origin star =
    rw star (append_assoc old (allowing origin) exposing ∙ ap (λ (xs : List ℕ). old ++ (allowing origin ++ xs)) (sym (append-nil exposing)))

pub one_origin : (old origin : List ℕ) → bytes_eq origin (codes "*") ≡ false
    → ((old ++ allowing origin) ++ varying) ++ exposing ≡ old ++ flat_map line (origin_fields (Some origin))
one_origin old origin one =
    rw one (append_assoc (old ++ allowing origin) varying exposing ∙ append_assoc old (allowing origin) (varying ++ exposing)
    ∙ ap (λ (xs : List ℕ). old ++ (allowing origin ++ (varying ++ xs))) (sym (append-nil exposing)))

pub negated : (a b : Bool) → a ≡ not b → a ≡ true → b ≡ false
negated a true is on_is = let clash : true ≡ false = sym on_is ∙ is in cc
negated a false is on_is = refl

pub affirmed : (a b : Bool) → a ≡ not b → a ≡ false → b ≡ true
affirmed a true is off_is = refl
affirmed a false is off_is = let clash : true ≡ false = sym is ∙ off_is in cc

-- ---- what is sent

last_of : (a b c : Bool) → (a && (b && c)) ≡ true → c ≡ true
last_of true true c on_is = on_is
last_of true false c on_is = let clash : false ≡ true = on_is in cc
last_of false b c on_is = let clash : false ≡ true = on_is in cc

none_tagged : (reply : Reply) → refuses_method reply ≡ true → tag_of reply ≡ None
none_tagged (R200 tag length) on_is = let clash : false ≡ true = on_is in cc
none_tagged (R206 tag first last length) on_is = let clash : false ≡ true = on_is in cc
none_tagged (R304 tag) on_is = let clash : false ≡ true = on_is in cc
none_tagged R400 on_is = refl
none_tagged R404 on_is = refl
none_tagged R405 on_is = refl
none_tagged R412 on_is = refl
none_tagged (R416 length) on_is = refl

module _ (service : ServiceState) (n : ℕ) (message : List ℕ) (catalogue : Catalogue) (p : Prepared) (o : Outgoing) (close preflight : Bool)
    (prepared : IsPrepared catalogue message p) (from : catalogue ≡ service.catalogue) (closes : close ≡ closes_by service.added n p.close)
    (asks : preflight ≡ answers_preflight service.added p.is_preflight (response_of p)) where
  abbrev pub sent : Sent
  sent = sent_by service.added n p.is_preflight (response_of p)

  is_sent : IsSent service n message sent
  is_sent = record {
    seen = prepared.seen;
    reads = prepared.reads;
    is = ap (λ (b : Bool). sent_by service.added n b (response_of p)) prepared.preflight
        ∙ ap (sent_by service.added n (asks_first prepared.seen)) (prepared.is ∙ ap (λ (cs : Catalogue). answer_by cs prepared.seen) from);
  }

  pub preflight_sent : {E : Type 0} (result : Result ℕ E) → preflight ≡ true → IfOk result (λ status. status ≡ 204)
      → OnOk result (waiting_of o ≡ head_with (codes "HTTP/1.1 204 No Content") (preflight_fields ++ (origin_fields service.added.origin ++ closing close)))
      → OnOk result (o.close ≡ close) → o.tag ≡ None → IfOk result (IsOutgoing service n message o)
  preflight_sent (Err e) on_is status text closed tag = tt
  preflight_sent (Ok code) on_is status text closed tag =
      let added = service.added in
      let origin = origin_fields added.origin in
      let on = sym asks ∙ on_is in
      let same : sent ≡ sent_preflight origin (announced added n (response_of p)) = rw on refl in
      record {
        sent = sent;
        answers = is_sent;
        text = text ∙ ap (λ (b : Bool). head_with (codes "HTTP/1.1 204 No Content") (preflight_fields ++ (origin ++ closing b))) closes
            ∙ ap (λ (x : Sent). x.text) (sym same);
        close = closed ∙ closes ∙ ap (λ (x : Sent). x.response.close) (sym same);
        tag = tag ∙ sym (none_tagged p.reply (last_of _ p.is_preflight (refuses_method p.reply) on))
            ∙ ap (λ (x : Sent). tag_of x.response.reply) (sym same);
        status = status ∙ ap (λ (x : Sent). x.status) (sym same);
      }

  pub answer_sent : {E : Type 0} (result : Result ℕ E) → preflight ≡ false → IfOk result (λ status. status ≡ status_of p.reply)
      → OnOk result (waiting_of o ≡ head_with (status_line p.reply) (fields_of p.reply ++ (origin_fields service.added.origin ++ closing close)) ++ p.body.now)
      → OnOk result (o.close ≡ close) → OnOk result (o.tag ≡ tag_of p.reply) → IfOk result (IsOutgoing service n message o)
  answer_sent (Err e) other status text closed tag = tt
  answer_sent (Ok code) other status text closed tag =
      let added = service.added in
      let origin = origin_fields added.origin in
      let off = sym asks ∙ other in
      let same : sent ≡ sent_with origin (announced added n (response_of p)) = rw off refl in
      record {
        sent = sent;
        answers = is_sent;
        text = text ∙ ap (λ (b : Bool). head_with (status_line p.reply) (fields_of p.reply ++ (origin ++ closing b)) ++ p.body.now) closes
            ∙ ap (λ (x : Sent). x.text) (sym same);
        close = closed ∙ closes ∙ ap (λ (x : Sent). x.response.close) (sym same);
        tag = tag ∙ ap (λ (x : Sent). tag_of x.response.reply) (sym same);
        status = status ∙ ap (λ (x : Sent). x.status) (sym same);
      }
