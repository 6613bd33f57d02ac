-- What kinds of answers a server gives.
use Rattle.std.proofs.Common.{◌≡◌, ℕ, ◌+◌, ◌-◌, ◌<◌, ◌≤◌, ◌⊎◌, inl, inr, Bool, true, false, cond, List, [], ◌++◌, length, take, drop, min, refl, sym, ap, ◌∙◌, arith, append_assoc, append-nil, codes, take-append-drop, length-append, length-drop, Option, Some, None}
use Rattle.std.specs.Prelude.{◌||◌, ◌&&◌, not, nat_eq, IsErr, IfOk, option_and_then}
use Rattle.std.specs.List.{starts_with}
use Rattle.http_fields.specs.Fields.{values_of}
use Rattle.std.specs.Str.{bytes_eq}
use Rattle.std.proofs.Math.Dec.{eqb, ltb}
use Rattle.std.proofs.lemmas.Bool.{ltb-true, eqb-false}
use Rattle.httparse.proofs.GrammarLemmas.{request_unique}
use Rattle.http_range.specs.declared.range.RangeSpec.{RangeSpec}
use Rattle.http_range.specs.declared.range.RangeSpec.TheVariants.{Between, From, Suffix}
use Rattle.http_range.specs.declared.range.Resolved.{Resolved}
use Rattle.http_range.specs.declared.range.Resolved.TheVariants.{Whole, Part, Unsatisfiable}
use Rattle.http_range.specs.declared.reply.Reply.TheVariants.{R200, R206, R304, R400, R405, R412}
use Rattle.http_range.specs.Range.{range_spec, resolved, resolved_or}
use Rattle.http_range.specs.Reply.{IsSent}
use Rattle.http_range.specs.Reading.{reply_seen, tag_seen}
use Rattle.http_range.specs.Seen.{SeenRequest, HasRequest, seen_request}
use Rattle.http_range.specs.Book.{Publication, IsPublication, Catalogue, IsCatalogue, published}
use Rattle.http_range.specs.Response.{Response, announces_body, asks_close, fails_precondition, is_unmodified, range_to_serve, target_name, refused, serve_part, serve_file, answer_by, with_tag}
use Rattle.http_range.specs.Honest.{IsFront, IsPieceOf}
use Rattle.http_range.specs.Laws.{AnswersAreUnique}
use Rattle.http_range.proofs.BookLemmas.{published_own, published_lawful}
use Rattle.http_range.proofs.RangeForms.{read_form}

-- ---- fronts

pub front_take : (n : ℕ) (xs : List ℕ) → IsFront (take n xs) xs
front_take n xs = (drop n xs, take-append-drop n xs)

pub front_nil : (xs : List ℕ) → IsFront [] xs
front_nil xs = (xs, refl)

pub front_same : (xs : List ℕ) → IsFront xs xs
front_same xs = ([], append-nil xs)

pub front_trans : (xs ys zs : List ℕ) → IsFront xs ys → IsFront ys zs → IsFront xs zs
front_trans xs ys zs a b =
    (a.0 ++ b.0, sym (append_assoc xs a.0 b.0) ∙ ap (λ (t : List ℕ). t ++ b.0) a.1 ∙ b.1)

pub front_length : (xs ys : List ℕ) → IsFront xs ys → length xs ≤ length ys
front_length xs ys a = omega (arith, ap length a.1, length-append xs a.0)

-- ---- the kinds

-- the answer carries no tag, and a client doesn't use it
pub record IsRefusal (s : Response) : Type 0 where
  pub nameless : s.name ≡ None
  pub sent : IsSent s.reply
  pub told : (rest : List ℕ) → IsErr (reply_seen s.reply rest)
  pub untagged : IsErr (tag_seen s.reply)

-- the answer carries the tag of p, and a client reads a piece of p
pub record IsFileAnswer (catalogue : Catalogue) (s : Response) (p : Publication) : Type 0 where
  pub has : published p.name catalogue ≡ Some p
  pub named : s.name ≡ Some p.name
  pub sent : IsSent s.reply
  pub told : (k : ℕ) → IfOk (reply_seen s.reply (take k s.body)) (IsPieceOf p)
  pub tagged : IfOk (tag_seen s.reply) (λ tag. tag ≡ p.tag)

abbrev pub Kind : Catalogue → Response → Type 0
Kind catalogue s = IsRefusal s ⊎ ((p : Publication) × IsFileAnswer catalogue s p)

kind_if : (catalogue : Catalogue) (t : Bool) (a b : Response) → Kind catalogue a → Kind catalogue b → Kind catalogue (cond t a b)
kind_if catalogue true a b ka kb = ka
kind_if catalogue false a b ka kb = kb

-- the positions of a part lie in the file
record IsInside (a b n : ℕ) : Type 0 where
  ascending : a ≤ b
  below : b < n

resolved_inside : (spec : RangeSpec) (n a b : ℕ) → 1 ≤ n → ((x y : ℕ) → spec ≡ Between x y → x ≤ y) → resolved spec n ≡ Part a b
    → IsInside a b n
resolved_inside (Between x y) n a b some ordered is = by_test (ltb x n) refl is
  where
    by_test : (t : Bool) → ltb x n ≡ t → cond t (Part x (min y (n - 1))) Unsatisfiable ≡ Part a b → IsInside a b n
    by_test true test is =
        let le = ordered x y refl in
        let lt = ltb-true _ _ test in
        let e : x ≡ a = cc in
        let f : min y (n - 1) ≡ b = cc in
        record { ascending = omega arith; below = omega arith }
    by_test false test is = absurd (cc)
resolved_inside (From x) n a b some ordered is = by_test (ltb x n) refl is
  where
    by_test : (t : Bool) → ltb x n ≡ t → cond t (Part x (n - 1)) Unsatisfiable ≡ Part a b → IsInside a b n
    by_test true test is =
        let lt = ltb-true _ _ test in
        let e : x ≡ a = cc in
        let f : n - 1 ≡ b = cc in
        record { ascending = omega arith; below = omega arith }
    by_test false test is = absurd (cc)
resolved_inside (Suffix x) n a b some ordered is = by_test (eqb x 0) refl is
  where
    by_test : (t : Bool) → eqb x 0 ≡ t → cond t Unsatisfiable (Part (n - x) (n - 1)) ≡ Part a b → IsInside a b n
    by_test true test is = absurd (cc)
    by_test false test is =
        let ne = eqb-false _ _ test in
        let e : n - x ≡ a = cc in
        let f : n - 1 ≡ b = cc in
        record { ascending = omega arith; below = omega arith }

part_inside : (value : Option (List ℕ)) (n a b : ℕ) → 1 ≤ n → resolved_or (option_and_then range_spec value) n ≡ Part a b → IsInside a b n
part_inside None n a b some is = absurd (cc)
part_inside (Some text) n a b some is = by_spec (range_spec text) refl is
  where
    by_spec : (o : Option RangeSpec) → range_spec text ≡ o → resolved_or o n ≡ Part a b → IsInside a b n
    by_spec None found is = absurd (cc)
    by_spec (Some spec) found is =
        resolved_inside spec n a b some (λ x y e. (read_form text (Between x y) (found ∙ ap Some e)).5) is

-- ---- each answer has its kind

module _ (catalogue : Catalogue) (lawful : IsCatalogue catalogue) where
  plain : (s : Response) → s.name ≡ None → IsSent s.reply → ((rest : List ℕ) → IsErr (reply_seen s.reply rest)) → IsErr (tag_seen s.reply)
      → Kind catalogue s
  plain s nameless sent told untagged = inl (record { nameless = nameless; sent = sent; told = told; untagged = untagged })

  module _ (p : Publication) (has : published p.name catalogue ≡ Some p) (is : IsPublication p) (close : Bool) where
    whole_piece : (body : List ℕ) → IsFront body p.file → (k : ℕ)
        → IfOk (reply_seen (R200 p.tag (length p.file)) (take k body)) (IsPieceOf p)
    whole_piece body front k =
        let n = length p.file in
        let inner = front_trans (take n (take k body)) (take k body) p.file (front_take n (take k body)) (front_trans (take k body) body p.file (front_take k body) front) in
        record {
          tag = refl;
          complete = refl;
          place = let short = front_length (take n (take k body)) p.file inner in omega arith;
          from_start = λ _. refl;
          body = inner;
        }

    kind_tag : Kind catalogue (with_tag p (R304 p.tag) close [])
    kind_tag = inr (p, record { has = has; named = refl; sent = is.tagged; told = λ k. tt; tagged = refl })

    kind_head : Kind catalogue (with_tag p (R200 p.tag (length p.file)) close [])
    kind_head =
        let small = is.small in
        inr (p, record { has = has; named = refl; sent = (is.tagged, omega arith); told = whole_piece [] (front_nil p.file); tagged = refl })

    kind_part : (value : Option (List ℕ)) (w : Resolved) → resolved_or (option_and_then range_spec value) (length p.file) ≡ w → Kind catalogue (serve_part w p close)
    kind_part value Whole same =
        let small = is.small in
        inr (p, record { has = has; named = refl; sent = (is.tagged, omega arith); told = whole_piece p.file (front_same p.file); tagged = refl })
    kind_part value Unsatisfiable same =
        let small = is.small in plain (serve_part Unsatisfiable p close) refl (omega arith) (λ rest. refl) refl
    kind_part value (Part a b) same =
        let small = is.small in
        let inside = part_inside value (length p.file) a b is.some same in
        let ab = inside.ascending in
        let bn = inside.below in
        inr (p, record { has = has; named = refl; sent = (is.tagged, inside.ascending, inside.below, omega arith); told = part_piece a b inside; tagged = refl })
      where
        part_piece : (a b : ℕ) → IsInside a b (length p.file) → (k : ℕ)
            → IfOk (reply_seen (R206 p.tag a b (length p.file)) (take k (take (b - a + 1) (drop a p.file)))) (IsPieceOf p)
        part_piece a b inside k =
            let m = b - a + 1 in
            let from = drop a p.file in
            let inner = front_trans (take m (take k (take m from))) (take k (take m from)) from (front_take m (take k (take m from)))
            (front_trans (take k (take m from)) (take m from) from (front_take k (take m from)) (front_take m from)) in
            record {
              tag = refl;
              complete = refl;
              place =
                  let short = front_length (take m (take k (take m from))) from inner in
                  let ab = inside.ascending in
                  let bn = inside.below in
                  omega (arith, length-drop a p.file);
              from_start = λ whole. absurd (let wrong : false ≡ true = whole in cc);
              body = inner;
            }

  kind_file : (r : SeenRequest) (o : Option Publication) → published (target_name r) catalogue ≡ o → Kind catalogue (serve_file o r)
  kind_file r None found = plain (serve_file None r) refl tt (λ rest. refl) refl
  kind_file r (Some p) found =
      let has = published_own (target_name r) catalogue p found in
      let is = published_lawful (target_name r) catalogue p lawful found in
      kind_if catalogue (fails_precondition r p.tag) _ _ (plain (refused R412 (asks_close r)) refl tt (λ rest. refl) refl)
      (kind_if catalogue (is_unmodified r p.tag) _ _ (kind_tag p has is (asks_close r))
      (kind_if catalogue (bytes_eq r.method (codes "HEAD")) _ _ (kind_head p has is (asks_close r))
      (kind_part p has is (asks_close r) (range_to_serve r p.tag) _ refl)))

  bad : Kind catalogue (refused R400 true)
  bad = plain (refused R400 true) refl tt (λ rest. refl) refl

  pub kind_of : (o : Option SeenRequest) → Kind catalogue (answer_by catalogue o)
  kind_of None = bad
  kind_of (Some r) =
      kind_if catalogue (not (eqb r.minor 1) || not (eqb (length (values_of (codes "Host") r.fields)) 1) || announces_body r) _ _ bad
      (kind_if catalogue (not (bytes_eq r.method (codes "GET")) && not (bytes_eq r.method (codes "HEAD"))) _ _ (plain (refused R405 (asks_close r)) refl tt (λ rest. refl) refl)
      (kind_if catalogue (not (starts_with nat_eq r.target (codes "/"))) _ _ bad (kind_file r _ refl)))

-- ---- a message has one answer

pub request_found_once : (message : List ℕ) (a b : Option SeenRequest) → HasRequest message a → HasRequest message b → a ≡ b
request_found_once message None None ha hb = refl
request_found_once message None (Some b) ha hb = absurd (ha hb.0 hb.1)
request_found_once message (Some a) None ha hb = absurd (hb ha.0 ha.1)
request_found_once message (Some a) (Some b) ha hb =
    let same = request_unique (take 8192 message) ha.0 hb.0 _ _ ha.1.reads hb.1.reads in
    ap Some (ha.2 ∙ ap seen_request same.0 ∙ sym hb.2)

pub answers_unique : AnswersAreUnique
answers_unique catalogue message s t a b =
    a.2 ∙ ap (answer_by catalogue) (request_found_once message a.0 b.0 a.1 b.1) ∙ sym b.2
