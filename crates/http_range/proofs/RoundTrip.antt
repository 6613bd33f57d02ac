-- What a server writes is what a client reads, cut anywhere.
use Rattle.std.proofs.Common.{◌≡◌, ℕ, ◌+◌, ◌-◌, ◌<◌, ◌≤◌, Bool, true, false, cond, List, ◌++◌, length, take, drop, refl, sym, ap, ◌∙◌, subst, arith, inl, inr, length-append, length-drop, take-append-drop, codes, Result, Ok, Err}
use Rattle.std.specs.List.{list_all}
use Rattle.std.specs.Char.{is_ascii_digit}
use Rattle.std.specs.Str.Parse.{digits_value}
use Rattle.std.proofs.Math.Dec.{leb}
use Rattle.std.proofs.Math.Seq.{take-append-add, drop-append_seam}
use Rattle.std.proofs.lemmas.Bool.{le-leb, lt-leb, cases_lt}
use Rattle.std.proofs.lemmas.List.{take-append-le}
use Rattle.std.proofs.lemmas.List.Sums.{AllPass-from_list_all}
use Rattle.httparse.specs.Grammar.{is_value_byte, ResponseHead, IsResponseHead, print_response}
use Rattle.http_range.specs.declared.reading.Why.{Why}
use Rattle.http_range.specs.declared.reading.Why.TheVariants.{Cut}
use Rattle.http_range.specs.declared.reply.Reply.{Reply}
use Rattle.http_range.specs.declared.reply.Reply.TheVariants.{R200, R206, R304, R400, R404, R405, R412, R416}
use Rattle.http_fields.specs.Text.{FieldLine, head_with, closing}
use Rattle.http_range.specs.Reply.{IsSent, status_of, status_line, fields_of, head_text}
use Rattle.http_range.specs.Head.{SeenHead, seen_head, FindsHead}
use Rattle.http_range.specs.Announced.{Announced, piece_behind}
use Rattle.http_range.specs.Piece.{SeenPiece, ◌>>=◌}
use Rattle.http_range.specs.Reading.{announced_of, reply_seen, front_seen, reply_announced, front_announced, check_tag, tag_seen, front_tag, ReadsHead, ReadsAnswer, ReadsCheck}
use Rattle.http_range.proofs.TextLemmas.{ArePlain, are_lines, head_by, status_by, head_with-is, head_is, length-fields, length-head_with, seen-are}
use Rattle.http_fields.specs.Laws.{PartsAreRead}
use Rattle.http_range.proofs.FrontLemmas.{found_whole, found_cut, whole_head}
use Rattle.http_range.proofs.ReplyLemmas.{fields_plain, closing_plain, plain-append, kept_read, reads_200, reads_206}

abbrev digits_of : Reply → List ℕ
digits_of (R200 tag l) = codes "200"
digits_of (R206 tag a b l) = codes "206"
digits_of (R304 tag) = codes "304"
digits_of R400 = codes "400"
digits_of R404 = codes "404"
digits_of R405 = codes "405"
digits_of R412 = codes "412"
digits_of (R416 l) = codes "416"

abbrev phrase_of : Reply → List ℕ
phrase_of (R200 tag l) = codes "OK"
phrase_of (R206 tag a b l) = codes "Partial Content"
phrase_of (R304 tag) = codes "Not Modified"
phrase_of R400 = codes "Bad Request"
phrase_of R404 = codes "Not Found"
phrase_of R405 = codes "Method Not Allowed"
phrase_of R412 = codes "Precondition Failed"
phrase_of (R416 l) = codes "Range Not Satisfiable"

-- what holds of a status line, by computing
record IsStatus (reply : Reply) : Type 0 where
  line : status_line reply ≡ status_by (digits_of reply) (phrase_of reply)
  three : length (digits_of reply) ≡ 3
  digits : list_all is_ascii_digit (digits_of reply) ≡ true
  value : list_all is_value_byte (phrase_of reply) ≡ true
  code : digits_value 10 (digits_of reply) ≡ status_of reply
  short : length (status_line reply) ≤ 100
  few : length (fields_of reply) ≤ 10

status : (reply : Reply) → IsStatus reply
status (R200 tag l) = record { line = refl; three = refl; digits = refl; value = refl; code = refl; short = omega arith; few = omega arith }
status (R206 tag a b l) = record { line = refl; three = refl; digits = refl; value = refl; code = refl; short = omega arith; few = omega arith }
status (R304 tag) = record { line = refl; three = refl; digits = refl; value = refl; code = refl; short = omega arith; few = omega arith }
status R400 = record { line = refl; three = refl; digits = refl; value = refl; code = refl; short = omega arith; few = omega arith }
status R404 = record { line = refl; three = refl; digits = refl; value = refl; code = refl; short = omega arith; few = omega arith }
status R405 = record { line = refl; three = refl; digits = refl; value = refl; code = refl; short = omega arith; few = omega arith }
status R412 = record { line = refl; three = refl; digits = refl; value = refl; code = refl; short = omega arith; few = omega arith }
status (R416 l) = record { line = refl; three = refl; digits = refl; value = refl; code = refl; short = omega arith; few = omega arith }

closing_few : (close : Bool) → length (closing close) ≤ 1
closing_few true = omega arith
closing_few false = omega arith

-- the first k bytes of a reply and a body have its whole head, or are cut
record IsFoundHead (reply : Reply) (close : Bool) (k : ℕ) (found : Result SeenHead Why) : Type 0 where
  whole : length (head_text reply close) ≤ k
      → found ≡ Ok (record {
        status = status_of reply;
        minor = 1;
        fields = fields_of reply ++ closing close;
        size = length (head_text reply close);
      })
  short : k < length (head_text reply close) → found ≡ Err Cut

module _ (laws : PartsAreRead) where
  module _ (reply : Reply) (close : Bool) (sent : IsSent reply) where
    abbrev lines : List FieldLine
    lines = fields_of reply ++ closing close

    abbrev head : ResponseHead
    head = head_by (digits_of reply) (phrase_of reply) lines

    plain : ArePlain lines
    plain = plain-append (fields_of reply) (closing close) (fields_plain laws reply sent) (closing_plain close)

    few : length lines ≤ 20
    few = omega (arith, length-append (fields_of reply) (closing close), (status reply).few, closing_few close)

    valid : IsResponseHead head
    valid =
        let s = status reply in
        head_is laws (digits_of reply) (phrase_of reply) lines s.three (AllPass-from_list_all is_ascii_digit (digits_of reply) s.digits)
        (AllPass-from_list_all is_value_byte (phrase_of reply) s.value) plain

    printed : head_text reply close ≡ print_response head
    printed =
        ap (λ (t : List ℕ). head_with t lines) (status reply).line ∙ head_with-is laws (digits_of reply) (phrase_of reply) lines

    small : length (head_text reply close) ≤ 4096
    small =
        let short = (status reply).short in length-head_with laws (status_line reply) lines plain (omega arith) few

    room : length head.fields ≤ 32
    room = let n = few in omega (arith, length-fields lines)

    -- what is seen of the head
    seen_is : seen_head head ≡ record { status = status_of reply; minor = 1; fields = lines; size = length (head_text reply close) }
    seen_is =
        λ i. record { status = (status reply).code i; minor = 1; fields = seen-are laws lines (are_lines lines plain) i; size = length (sym printed i) }

    found_there : (bytes rest : List ℕ) → bytes ≡ head_text reply close ++ rest → (found : Result SeenHead Why)
        → FindsHead bytes found → found ≡ Ok (record { status = status_of reply; minor = 1; fields = lines; size = length (head_text reply close) })
    found_there bytes rest parts found finds =
        let fits : length (print_response head) ≤ 4096 = subst (λ (t : List ℕ). length t ≤ 4096) printed small in
        found_whole bytes head found
        (whole_head head valid room fits bytes rest (parts ∙ ap (λ (t : List ℕ). t ++ rest) printed)) finds
        ∙ ap Ok seen_is

    found_short : (bytes more : List ℕ) → 0 < length more → bytes ++ more ≡ head_text reply close → (found : Result SeenHead Why)
        → FindsHead bytes found → found ≡ Err Cut
    found_short bytes more some parts =
        let fits : length (print_response head) ≤ 4096 = subst (λ (t : List ℕ). length t ≤ 4096) printed small in
        found_cut head valid room fits bytes more some (parts ∙ printed)

  -- what the fields of a reply say
  reads_reply : (reply : Reply) (close : Bool) (size : ℕ) → IsSent reply
      → announced_of (record { status = status_of reply; minor = 1; fields = fields_of reply ++ closing close; size = size }) ≡ reply_announced reply size
  reads_reply (R200 tag l) close size sent = reads_200 laws tag l close size sent
  reads_reply (R206 tag a b l) close size sent = reads_206 laws tag a b l close size sent
  reads_reply (R304 tag) close size sent = refl
  reads_reply R400 close size sent = refl
  reads_reply R404 close size sent = refl
  reads_reply R405 close size sent = refl
  reads_reply R412 close size sent = refl
  reads_reply (R416 l) close size sent = refl

  -- what a check reads of them
  reads_tag : (reply : Reply) (close : Bool) (size : ℕ) → IsSent reply
      → check_tag (record { status = status_of reply; minor = 1; fields = fields_of reply ++ closing close; size = size }) ≡ tag_seen reply
  reads_tag (R200 tag l) true size sent = kept_read laws tag sent.0
  reads_tag (R200 tag l) false size sent = kept_read laws tag sent.0
  reads_tag (R206 tag a b l) true size sent = kept_read laws tag sent.0
  reads_tag (R206 tag a b l) false size sent = kept_read laws tag sent.0
  reads_tag (R304 tag) true size sent = kept_read laws tag sent
  reads_tag (R304 tag) false size sent = kept_read laws tag sent
  reads_tag R400 close size sent = refl
  reads_tag R404 close size sent = refl
  reads_tag R405 close size sent = refl
  reads_tag R412 close size sent = refl
  reads_tag (R416 l) close size sent = refl

  front_found : (reply : Reply) (close : Bool) (body : List ℕ) (k : ℕ) → IsSent reply → (bytes : List ℕ)
      → bytes ≡ take k (head_text reply close ++ body) → (found : Result SeenHead Why) → FindsHead bytes found
      → IsFoundHead reply close k found
  front_found reply close body k sent bytes is found finds =
      let text = head_text reply close in
      let n = length text in record {
        whole = λ above.
            let e : k ≡ n + (k - n) = omega arith in
            let parts : bytes ≡ text ++ take (k - n) body =
            is ∙ ap (λ (m : ℕ). take m (text ++ body)) e ∙ take-append-add text body (k - n) in
            found_there reply close sent bytes (take (k - n) body) parts found finds;
        short = λ below.
            let front : bytes ≡ take k text = is ∙ take-append-le k text body (omega arith) in
            let parts : bytes ++ drop k text ≡ text = ap (λ (t : List ℕ). t ++ drop k text) front ∙ take-append-drop k text in
            let some : 0 < length (drop k text) = omega (arith, length-drop k text) in
            found_short reply close sent bytes (drop k text) some parts found finds;
      }

  -- what is read of them, by what is read of the whole head
  front_by : {A : Type 0} (of : SeenHead → Result A Why) (told : Result A Why) (reply : Reply) (close : Bool) (body : List ℕ) (k : ℕ)
      → IsSent reply
      → of (record { status = status_of reply; minor = 1; fields = fields_of reply ++ closing close; size = length (head_text reply close) }) ≡ told
      → (bytes : List ℕ) → bytes ≡ take k (head_text reply close ++ body) → (found : Result SeenHead Why) → FindsHead bytes found
      → (found >>= of) ≡ cond (leb (length (head_text reply close)) k) told (Err Cut)
  front_by of told reply close body k sent tells bytes is found finds =
      let n = length (head_text reply close) in
      let head = front_found reply close body k sent bytes is found finds in
      elim (cases_lt k n) [
        | inl below ↦
            let test : leb n k ≡ false = lt-leb n k below in
            ap (λ (f : Result SeenHead Why). f >>= of) (head.short below) ∙ rw test
        | inr above ↦
            let test : leb n k ≡ true = le-leb n k above in
            ap (λ (f : Result SeenHead Why). f >>= of) (head.whole above) ∙ tells ∙ rw test
      ]

  pub front_head : (reply : Reply) (close : Bool) (body : List ℕ) (k : ℕ) → IsSent reply → (bytes : List ℕ)
      → bytes ≡ take k (head_text reply close ++ body) → (r : Result Announced Why) → ReadsHead bytes r
      → r ≡ front_announced reply close k
  front_head reply close body k sent bytes is r reads =
      let n = length (head_text reply close) in
      reads.2 ∙ front_by announced_of (reply_announced reply n) reply close body k sent (reads_reply reply close n sent) bytes is reads.0 reads.1

  -- the piece that a reply announces, where these bytes follow its head
  reply_behind : (reply : Reply) (n : ℕ) (bytes rest : List ℕ) → drop n bytes ≡ rest
      → (reply_announced reply n >>= (λ a. Ok (piece_behind bytes a))) ≡ reply_seen reply rest
  reply_behind (R200 tag l) n bytes rest behind = rw behind
  reply_behind (R206 tag a b l) n bytes rest behind = rw behind
  reply_behind (R304 tag) n bytes rest behind = refl
  reply_behind R400 n bytes rest behind = refl
  reply_behind R404 n bytes rest behind = refl
  reply_behind R405 n bytes rest behind = refl
  reply_behind R412 n bytes rest behind = refl
  reply_behind (R416 l) n bytes rest behind = refl

  pub front_read : (reply : Reply) (close : Bool) (body : List ℕ) (k : ℕ) → IsSent reply → (bytes : List ℕ)
      → bytes ≡ take k (head_text reply close ++ body) → (r : Result SeenPiece Why) → ReadsAnswer bytes r
      → r ≡ front_seen reply close body k
  front_read reply close body k sent bytes is r reads =
      let text = head_text reply close in
      let n = length text in
      let head = front_head reply close body k sent bytes is reads.0 reads.1 in
      reads.2 ∙ ap (λ (h : Result Announced Why). h >>= (λ a. Ok (piece_behind bytes a))) head
      ∙ elim (cases_lt k n) [
        | inl below ↦ let test : leb n k ≡ false = lt-leb n k below in rw test
        | inr above ↦
            let test : leb n k ≡ true = le-leb n k above in
            let e : k ≡ n + (k - n) = omega arith in
            let parts : bytes ≡ text ++ take (k - n) body =
            is ∙ ap (λ (m : ℕ). take m (text ++ body)) e ∙ take-append-add text body (k - n) in
            rw test (reply_behind reply n bytes (take (k - n) body) (ap (drop n) parts ∙ drop-append_seam text (take (k - n) body)))
      ]

  pub front_checked : (reply : Reply) (close : Bool) (body : List ℕ) (k : ℕ) → IsSent reply → (bytes : List ℕ)
      → bytes ≡ take k (head_text reply close ++ body) → (r : Result (List ℕ) Why) → ReadsCheck bytes r
      → r ≡ front_tag reply close k
  front_checked reply close body k sent bytes is r reads =
      reads.2 ∙ front_by check_tag (tag_seen reply) reply close body k sent (reads_tag reply close (length (head_text reply close)) sent) bytes is reads.0 reads.1
