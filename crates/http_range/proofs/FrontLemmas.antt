-- What is found of the head at the front of an answer that may be cut.
use Rattle.std.proofs.Common.{◌≡◌, ℕ, ◌+◌, ◌-◌, ◌<◌, ◌≤◌, List, [], ◌++◌, length, take, refl, sym, ap, ◌∙◌, subst, arith, inl, inr, append-nil, length-append, Result, Ok, Err}
use Rattle.std.proofs.lemmas.List.{take_all}
use Rattle.std.proofs.Math.Seq.{take-append-add}
use Rattle.httparse.specs.Grammar.{ResponseHead, IsResponseHead, ReadsResponse, print_response}
use Rattle.httparse.proofs.GrammarLemmas.{response_unique, response_prefix_free, ReadsResponse-append}
use Rattle.http_range.specs.declared.reading.Why.{Why}
use Rattle.http_range.specs.declared.reading.Why.TheVariants.{Cut, Head, Status, NoTag, WeakTag, TagTooLong, NoRange, NoLength, Coding}
use Rattle.http_range.specs.Head.{SeenHead, IsHeadOf, seen_head, FindsHead}

-- the head that is there is the one that is found
pub found_whole : (bytes : List ℕ) (h : ResponseHead) (found : Result SeenHead Why) → IsHeadOf bytes h
    → FindsHead bytes found → found ≡ Ok (seen_head h)
found_whole bytes h (Ok seen) is finds =
    let same = response_unique (take 4096 bytes) finds.0 h _ _ finds.1.reads is.reads in
    ap Ok (finds.2 ∙ ap seen_head same.0)
found_whole bytes h (Err Cut) is finds =
    absurd (finds.1 h is.rest
    (let short = finds.0 in
    let all : take 4096 bytes ≡ bytes = take_all 4096 bytes (omega arith) in
    subst (λ (t : List ℕ). ReadsResponse t h is.rest) all is.reads))
found_whole bytes h (Err Head) is (inl long) = absurd (long.1 h is.rest is.reads)
found_whole bytes h (Err Head) is (inr over) =
    let many = over [] h (is.rest ++ []) (ReadsResponse-append (take 4096 bytes) h is.rest [] is.reads) in
    let room = is.room in absurd (omega arith)
found_whole bytes h (Err (Status code)) is finds = absurd finds
found_whole bytes h (Err NoTag) is finds = absurd finds
found_whole bytes h (Err WeakTag) is finds = absurd finds
found_whole bytes h (Err TagTooLong) is finds = absurd finds
found_whole bytes h (Err NoRange) is finds = absurd finds
found_whole bytes h (Err NoLength) is finds = absurd finds
found_whole bytes h (Err Coding) is finds = absurd finds

-- a strict front of a head is cut
module _ (h : ResponseHead) (is : IsResponseHead h) (room : length h.fields ≤ 32)
    (small : length (print_response h) ≤ 4096) (bytes more : List ℕ) (some : 0 < length more)
    (parts : bytes ++ more ≡ print_response h) where
  reads_all : ReadsResponse (bytes ++ more) h []
  reads_all = (is, parts ∙ sym (append-nil _))

  bytes_short : length bytes < 4096
  bytes_short = omega (arith, ap length parts, length-append bytes more)

  front_all : take 4096 bytes ≡ bytes
  front_all = let short = bytes_short in take_all 4096 bytes (omega arith)

  pub found_cut : (found : Result SeenHead Why) → FindsHead bytes found → found ≡ Err Cut
  found_cut (Ok seen) finds =
      let reads : ReadsResponse bytes finds.0 finds.1.rest =
      subst (λ (t : List ℕ). ReadsResponse t finds.0 finds.1.rest) front_all finds.1.reads in
      let same = response_prefix_free bytes more finds.0 h finds.1.rest [] reads reads_all in
      absurd (omega (arith, ap length same.1, length-append finds.1.rest more))
  found_cut (Err Cut) finds = refl
  found_cut (Err Head) (inl long) = let short = bytes_short in absurd (omega arith)
  found_cut (Err Head) (inr over) =
      let reads : ReadsResponse (take 4096 bytes ++ more) h [] =
      subst (λ (t : List ℕ). ReadsResponse (t ++ more) h []) (sym front_all) reads_all in
      let many = over more h [] reads in absurd (omega arith)
  found_cut (Err (Status code)) finds = absurd finds
  found_cut (Err NoTag) finds = absurd finds
  found_cut (Err WeakTag) finds = absurd finds
  found_cut (Err TagTooLong) finds = absurd finds
  found_cut (Err NoRange) finds = absurd finds
  found_cut (Err NoLength) finds = absurd finds
  found_cut (Err Coding) finds = absurd finds

-- a head and any bytes behind it have that head
pub whole_head : (h : ResponseHead) (is : IsResponseHead h) → length h.fields ≤ 32
    → length (print_response h) ≤ 4096 → (bytes rest : List ℕ) → bytes ≡ print_response h ++ rest → IsHeadOf bytes h
whole_head h is room small bytes rest parts =
    let n = length (print_response h) in
    let m = 4096 - n in
    let e : 4096 ≡ n + m = omega arith in record {
      rest = take m rest;
      reads = (is, ap (take 4096) parts ∙ ap (λ (k : ℕ). take k (print_response h ++ rest)) e ∙ take-append-add (print_response h) rest m);
      room = room;
    }
