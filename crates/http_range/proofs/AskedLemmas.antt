-- What a server answers to a client's request.
use Rattle.std.proofs.Common.{◌≡◌, ℕ, ◌-◌, ◌^◌, ◌<◌, ◌≤◌, min, Bool, true, false, cond, ◌||◌, List, [], ◌∷◌, ◌++◌, length, drop, suc, refl, sym, ap, ◌∙◌, subst, append-nil, codes, Option, Some, None}
use Rattle.std.specs.Prelude.{◌↔◌, option_and_then}
use Rattle.http_fields.specs.Members.{members}
use Rattle.http_fields.specs.Text.{FieldLine, closing}
use Rattle.http_fields.specs.RequestFields.{AreExtra}
use Rattle.std.proofs.Math.Dec.{ltb}
use Rattle.std.specs.Str.{bytes_eq}
use Rattle.httparse.specs.Grammar.{trim_ows}
use Rattle.http_range.specs.declared.range.RangeSpec.{RangeSpec}
use Rattle.http_range.specs.declared.range.Resolved.TheVariants.{Whole, Part, Unsatisfiable}
use Rattle.http_range.specs.declared.reply.Reply.TheVariants.{R200, R304, R404, R416}
use Rattle.http_range.specs.Range.{range_spec, resolved_or}
use Rattle.http_range.specs.Ask.{range_value, if_range, asked_request, request_with, CanAsk, CanCheck, checked_request, check_with}
use Rattle.http_range.specs.Book.{Publication, Catalogue, published}
use Rattle.http_range.specs.Response.{Response, ending, refused, serve_part, serve_file, answer_by, is_current, response_to_client, response_to_check, IsAnswer, with_tag}
use Rattle.http_range.specs.Stream.{AreAnswers, IsAnswered, IsFirstMessage}
use Rattle.http_range.specs.Stream.AreAnswers.{unfinished, closed, more as goes_on}
use Rattle.http_fields.specs.declared.limits.TheConstants.{ANSWERS_LIMIT}
use Rattle.http_range.specs.Laws.{ClientsAreAnswered, RequestsAreAnswered, ChecksAreAnswered, ClientsAreServed, OpenClientsAreServed, ChecksAreServed}
use Rattle.http_fields.specs.Laws.{PartsAreRead}
use Rattle.http_range.proofs.RangeLemmas.{range_spec-range_value}
use Rattle.http_range.proofs.RequestLemmas.{asked_first, asked_read, asked_has, checked_first, checked_read, checked_has}
use Rattle.http_range.proofs.ExtraLemmas.{alike, answer_alike}
use Rattle.http_range.proofs.MessageLemmas.{no_message, one_message}
use Rattle.http_range.proofs.StreamLemmas.{closes_apart, same_response, streams_answered_once}
use Rattle.std.proofs.Math.Seq.{drop-append_seam}

module _ (laws : PartsAreRead) where
  -- what is answered to a client, whether the connection ends with it or not
  abbrev answer_to : Bool → Option Publication → ℕ → ℕ → Option (List ℕ) → Response
  answer_to close None first last known = refused R404 close
  answer_to close (Some p) first last known =
      cond (is_current known p.tag)
      (cond (ltb first (length p.file)) (serve_part (Part first (min last (length p.file - 1))) p close) (refused (R416 (length p.file)) close))
      (serve_part Whole p close)

  answer_ends : (close : Bool) (o : Option Publication) (first last : ℕ) (known : Option (List ℕ))
      → answer_to close o first last known ≡ ending close (response_to_client o first last known)
  answer_ends close None first last known = refl
  answer_ends close (Some p) first last known = by_tests (is_current known p.tag) (ltb first (length p.file))
    where
      by_tests : (t u : Bool)
          → cond t (cond u (serve_part (Part first (min last (length p.file - 1))) p close) (refused (R416 (length p.file)) close)) (serve_part Whole p close)
          ≡ ending close (cond t (cond u (serve_part (Part first (min last (length p.file - 1))) p true) (refused (R416 (length p.file)) true)) (serve_part Whole p true))
      by_tests true true = refl
      by_tests true false = refl
      by_tests false u = refl

  module _ (close : Bool) (p : Publication) (first last : ℕ) (ordered : first ≤ last) (small : last < 2 ^ 64) where
    abbrev within : Response
    within =
        cond (ltb first (length p.file)) (serve_part (Part first (min last (length p.file - 1))) p close)
        (refused (R416 (length p.file)) close)

    by_test : (t : Bool)
        → serve_part (cond t (Part first (min last (length p.file - 1))) Unsatisfiable) p close
        ≡ cond t (serve_part (Part first (min last (length p.file - 1))) p close) (refused (R416 (length p.file)) close)
    by_test true = refl
    by_test false = refl

    asked_part : serve_part (resolved_or (range_spec (range_value first last)) (length p.file)) p close ≡ within
    asked_part =
        ap (λ (o : Option RangeSpec). serve_part (resolved_or o (length p.file)) p close) (range_spec-range_value laws first last ordered small)
        ∙ by_test (ltb first (length p.file))

    asked_if : (t : Bool)
        → serve_part (resolved_or (option_and_then range_spec (cond t (Some (range_value first last)) None)) (length p.file)) p close
        ≡ cond t within (serve_part Whole p close)
    asked_if true = asked_part
    asked_if false = refl

  module _ (host name : List ℕ) (first last : ℕ) (ordered : first ≤ last) (small : last < 2 ^ 64) where
    by_file : (close : Bool) (tag : Option (List ℕ)) (o : Option Publication)
        → serve_file o (asked_request close host name [] first last tag) ≡ answer_to close o first last tag
    unfolding members trim_ows
    by_file true None None = refl
    by_file false None None = refl
    by_file true (Some tag) None = refl
    by_file false (Some tag) None = refl
    by_file true None (Some p) = asked_part true p first last ordered small
    by_file false None (Some p) = asked_part false p first last ordered small
    by_file true (Some tag) (Some p) = asked_if true p first last ordered small (bytes_eq tag p.tag)
    by_file false (Some tag) (Some p) = asked_if false p first last ordered small (bytes_eq tag p.tag)

    by_rows : (catalogue : Catalogue) (close : Bool) (tag : Option (List ℕ))
        → answer_by catalogue (Some (asked_request close host name [] first last tag)) ≡ answer_to close (published name catalogue) first last tag
    by_rows catalogue true None = by_file true None (published name catalogue)
    by_rows catalogue false None = by_file false None (published name catalogue)
    by_rows catalogue true (Some tag) = by_file true (Some tag) (published name catalogue)
    by_rows catalogue false (Some tag) = by_file false (Some tag) (published name catalogue)

    pub asked_answer : (catalogue : Catalogue) (close : Bool) (extra : List FieldLine) (tag : Option (List ℕ)) → AreExtra extra
        → answer_by catalogue (Some (asked_request close host name extra first last tag))
        ≡ ending close (response_to_client (published name catalogue) first last tag)
    asked_answer catalogue close extra tag adds =
        let before : List FieldLine = (codes "Host", host) ∷ (codes "Range", range_value first last) ∷ if_range tag in
        answer_alike (codes "GET") (codes "/" ++ name) (before ++ (extra ++ closing close)) (before ++ closing close)
        (alike before extra (closing close) adds.each) catalogue
        ∙ by_rows catalogue close tag ∙ answer_ends close (published name catalogue) first last tag

  pub requests_answered : RequestsAreAnswered
  requests_answered catalogue close host name extra more first last tag response can ordered =
      let text = request_with close host name extra first last tag ++ more in
      let answer = asked_answer host name first last ordered can.to_last catalogue close extra tag can.adds in (
        λ is. is.2 ∙ ap (answer_by catalogue) (asked_read laws close host name extra first last tag more can text refl is.0 is.1) ∙ answer,
        λ is. (Some (asked_request close host name extra first last tag), asked_has laws close host name extra first last tag more can text refl, is ∙ sym answer),
      )

  -- ---- the check

  module _ (host name : List ℕ) (extra : List FieldLine) (tag : List ℕ) (can : CanCheck host name extra tag) where
    check_file : (o : Option Publication) → serve_file o (checked_request host name [] tag) ≡ response_to_check o tag
    unfolding members trim_ows
    check_file None = refl
    check_file (Some p) =
        ap (λ (t : Bool). cond (t || false) (with_tag p (R304 p.tag) true []) (with_tag p (R200 p.tag (length p.file)) true [])) (laws.alone tag p.tag can.kept)
        ∙ by_test (bytes_eq tag p.tag)
      where
        by_test : (t : Bool) → cond (t || false) (with_tag p (R304 p.tag) true []) (with_tag p (R200 p.tag (length p.file)) true []) ≡ cond t (with_tag p (R304 p.tag) true []) (with_tag p (R200 p.tag (length p.file)) true [])
        by_test true = refl
        by_test false = refl

    checked_answer : (catalogue : Catalogue)
        → answer_by catalogue (Some (checked_request host name extra tag)) ≡ response_to_check (published name catalogue) tag
    checked_answer catalogue =
        let before : List FieldLine = (codes "Host", host) ∷ (codes "If-None-Match", tag) ∷ [] in
        answer_alike (codes "HEAD") (codes "/" ++ name) (before ++ (extra ++ closing true)) (before ++ closing true)
        (alike before extra (closing true) can.adds.each) catalogue
        ∙ check_file (published name catalogue)

  pub checks_answered : ChecksAreAnswered
  checks_answered catalogue host name extra tag more response can =
      let text = check_with host name extra tag ++ more in
      let answer = checked_answer host name extra tag can catalogue in (
        λ is. is.2 ∙ ap (answer_by catalogue) (checked_read laws host name extra tag more can text refl is.0 is.1) ∙ answer,
        λ is. (Some (checked_request host name extra tag), checked_has laws host name extra tag more can text refl, is ∙ sym answer),
      )

  -- ---- at the front of a stream

  -- a message that is answered by a response that closes is a stream's only one
  alone : (catalogue : Catalogue) (stream message : List ℕ) (r : Response) (rs : List Response) → IsFirstMessage stream message
      → IsAnswer catalogue message r → r.close ≡ true → IsAnswered catalogue stream rs ↔ (rs ≡ r ∷ [])
  alone catalogue stream message r rs first is closes =
      let one : IsAnswered catalogue stream (r ∷ []) = closed 99 stream message r first is closes in (
        λ answered. streams_answered_once catalogue ANSWERS_LIMIT stream rs (r ∷ []) answered one,
        λ same. subst (λ (xs : List Response). IsAnswered catalogue stream xs) (sym same) one,
      )

  -- it closes already
  client_ends : (o : Option Publication) (first last : ℕ) (tag : Option (List ℕ))
      → ending true (response_to_client o first last tag) ≡ response_to_client o first last tag
  client_ends o first last tag = sym (answer_ends true o first last tag) ∙ same o
    where
      same : (o : Option Publication) → answer_to true o first last tag ≡ response_to_client o first last tag
      same None = refl
      same (Some p) = refl

  check_closes : (o : Option Publication) (tag : List ℕ) → (response_to_check o tag).close ≡ true
  check_closes None tag = refl
  check_closes (Some p) tag = by_test (bytes_eq tag p.tag)
    where
      by_test : (t : Bool) → (cond t (with_tag p (R304 p.tag) true []) (with_tag p (R200 p.tag (length p.file)) true [])).close ≡ true
      by_test true = refl
      by_test false = refl

  pub clients_answered : ClientsAreAnswered
  clients_answered catalogue host name extra more first last tag response can ordered =
      subst (λ (s : Response). IsAnswer catalogue (request_with true host name extra first last tag ++ more) response ↔ (response ≡ s))
      (client_ends (published name catalogue) first last tag)
      (requests_answered catalogue true host name extra more first last tag response can ordered)

  -- a client's request as a message of its own
  asked_alone : (catalogue : Catalogue) (close : Bool) (host name : List ℕ) (extra : List FieldLine) (first last : ℕ) (tag : Option (List ℕ))
      → CanAsk host name extra first last tag → first ≤ last
      → IsAnswer catalogue (request_with close host name extra first last tag) (ending close (response_to_client (published name catalogue) first last tag))
  asked_alone catalogue close host name extra first last tag can ordered =
      let text = request_with close host name extra first last tag in
      let r = ending close (response_to_client (published name catalogue) first last tag) in
      subst (λ (t : List ℕ). IsAnswer catalogue t r) (append-nil text)
      ((requests_answered catalogue close host name extra [] first last tag r can ordered).1 refl)

  pub clients_served : ClientsAreServed
  clients_served catalogue host name extra more first last tag rs can ordered =
      let text = request_with true host name extra first last tag in
      let served = response_to_client (published name catalogue) first last tag in
      let r = ending true served in
      let one = alone catalogue (text ++ more) text r rs (asked_first laws true host name extra first last tag more can)
      (asked_alone catalogue true host name extra first last tag can ordered) refl in
      subst (λ (s : Response). IsAnswered catalogue (text ++ more) rs ↔ (rs ≡ s ∷ []))
      (client_ends (published name catalogue) first last tag) one

  -- a message that is answered by a response that lets the connection go on: behind it the next ones are answered
  followed : (catalogue : Catalogue) (n : ℕ) (message more : List ℕ) (r : Response) (rs : List Response) → IsFirstMessage (message ++ more) message
      → IsAnswer catalogue message r → r.close ≡ false
      → AreAnswers catalogue (suc n) (message ++ more) rs
      ↔ ((later : List Response) × (rs ≡ r ∷ later) × AreAnswers catalogue n more later)
  followed catalogue n message more r rs first is on =
      let stream = message ++ more in (
        λ answered. split rs answered,
        λ h. subst (λ (xs : List Response). AreAnswers catalogue (suc n) stream xs) (sym h.1)
            (goes_on n stream message r h.0 first is on
            (subst (λ (t : List ℕ). AreAnswers catalogue n t h.0) (sym (drop-append_seam message more)) h.2)),
      )
    where
      split : (rs : List Response) → AreAnswers catalogue (suc n) (message ++ more) rs
          → ((later : List Response) × (rs ≡ r ∷ later) × AreAnswers catalogue n more later)
      split _ (unfinished _ _ none) = absurd (no_message (message ++ more) message none first)
      split _ (closed _ _ m s found answers ends) =
          absurd (closes_apart s r (same_response catalogue (message ++ more) m message s r found first answers is) ends on)
      split _ (goes_on _ _ m s later found answers goes behind) =
          let same = same_response catalogue (message ++ more) m message s r found first answers is in
          let front = one_message (message ++ more) m message found first in (
            later,
            ap (λ (u : Response). u ∷ later) same,
            subst (λ (t : List ℕ). AreAnswers catalogue n t later) (ap (λ (x : List ℕ). drop (length x) (message ++ more)) front ∙ drop-append_seam message more) behind,
          )

  pub open_clients_served : OpenClientsAreServed
  open_clients_served catalogue n host name extra more first last tag rs can ordered =
      followed catalogue n (request_with false host name extra first last tag) more (ending false (response_to_client (published name catalogue) first last tag)) rs
      (asked_first laws false host name extra first last tag more can) (asked_alone catalogue false host name extra first last tag can ordered) refl

  pub checks_served : ChecksAreServed
  checks_served catalogue host name extra tag more rs can =
      let text = check_with host name extra tag in
      let r = response_to_check (published name catalogue) tag in
      let is : IsAnswer catalogue text r =
      subst (λ (t : List ℕ). IsAnswer catalogue t r) (append-nil text) ((checks_answered catalogue host name extra tag [] r can).1 refl) in
      alone catalogue (text ++ more) text r rs (checked_first laws host name extra tag more can) is (check_closes (published name catalogue) tag)
