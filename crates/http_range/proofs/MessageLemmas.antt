-- The messages of a stream.
use Rattle.std.proofs.Common.{◌≡◌, ℕ, zero, suc, ◌+◌, ◌<◌, ◌≤◌, inl, inr, true, false, List, [], ◌∷◌, ◌++◌, length, take, drop, refl, sym, ap, ◌∙◌, subst, arith, length-take, take-append-drop}
use Rattle.std.proofs.lemmas.Bool.{cases_lt}
use Rattle.std.proofs.lemmas.List.{take-append-le}
use Rattle.httparse.proofs.GrammarLemmas.{ReadsRequest-append}
use Rattle.httparse.specs.Grammar.{ReadsRequest}
use Rattle.http_fields.specs.declared.limits.TheConstants.{MESSAGE_LIMIT}
use Rattle.http_range.specs.Scan.{is_message}
use Rattle.http_range.specs.Stream.{HasNoMessage, IsFirstMessage, IsMessage, IsUnfinished}
use Rattle.http_range.specs.Laws.{MessagesStay, HeadsStay}
use Rattle.http_range.proofs.ScanLemmas.{message_of, no_message_of}

-- ---- fronts of a stream

length_in : (stream message : List ℕ) → IsFirstMessage stream message → length message ≤ length stream
length_in stream message is = omega (arith, ap length is.front, length-take (length message) stream)

take_same : (k : ℕ) (stream more : List ℕ) → k ≤ length stream → take k (stream ++ more) ≡ take k stream
take_same k stream more le = take-append-le k stream more le

empty_none : ¬ (IsMessage [])
unfolding is_message
empty_none = no_message_of [] refl

found_stays : (stream message more : List ℕ) → IsFirstMessage stream message → IsFirstMessage (stream ++ more) message
found_stays stream message more is =
    let within = length_in stream message is in record {
      front = take_same (length message) stream more within ∙ is.front;
      is_one = is.is_one;
      shortest = λ k below found.
          let le : k ≤ length stream = omega arith in
          is.shortest k below (subst IsMessage (take_same k stream more le) found);
    }

-- a message isn't longer than the limit
not_longer : (stream message : List ℕ) → IsFirstMessage stream message → length message ≤ MESSAGE_LIMIT
not_longer stream message is = elim (cases_lt MESSAGE_LIMIT (length message)) [
  | inl over ↦
      let within = length_in stream message is in
      let full : length (take MESSAGE_LIMIT stream) ≡ MESSAGE_LIMIT = omega (arith, length-take MESSAGE_LIMIT stream) in
      absurd (is.shortest MESSAGE_LIMIT over (inl full))
  | inr below ↦ below
]

not_empty : (message : List ℕ) → IsMessage message → 1 ≤ length message
not_empty [] is = absurd (empty_none is)
not_empty (b ∷ bytes) is = omega arith

pub one_message : (stream message other : List ℕ) → IsFirstMessage stream message → IsFirstMessage stream other → message ≡ other
one_message stream message other a b = elim (cases_lt (length message) (length other)) [
  | inl below ↦ absurd (b.shortest (length message) below (subst IsMessage (sym a.front) a.is_one))
  | inr above ↦ elim (cases_lt (length other) (length message)) [
    | inl below ↦ absurd (a.shortest (length other) below (subst IsMessage (sym b.front) b.is_one))
    | inr below ↦
        let same : length message ≡ length other = omega arith in
        sym a.front ∙ ap (λ (k : ℕ). take k stream) same ∙ b.front
  ]
]

unfinished_short : (stream : List ℕ) → IsUnfinished stream → length stream < MESSAGE_LIMIT
unfinished_short stream none = elim (cases_lt (length stream) MESSAGE_LIMIT) [
  | inl below ↦ below
  | inr above ↦
      let full : length (take MESSAGE_LIMIT stream) ≡ MESSAGE_LIMIT = omega (arith, length-take MESSAGE_LIMIT stream) in
      absurd (none MESSAGE_LIMIT above (inl full))
]

pub no_message : (stream message : List ℕ) → IsUnfinished stream → IsFirstMessage stream message → ⊥
no_message stream message none is =
    none (length message) (length_in stream message is) (subst IsMessage (sym is.front) is.is_one)

pub law_messages_stay : MessagesStay
law_messages_stay = record {
  found = found_stays;
  short = λ stream message is. (
    not_empty message is.is_one,
    not_longer stream message is,
    ap (λ (front : List ℕ). front ++ drop (length message) stream) (sym is.front) ∙ take-append-drop (length message) stream,
  );
  one = one_message;
  unfinished = λ stream more none. (
    unfinished_short stream none,
    λ k le found. none k le (subst IsMessage (take_same k stream more le) found),
  );
  none = λ stream k le found.
      let e : k ≡ 0 = omega arith in empty_none (subst (λ (n : ℕ). IsMessage (take n stream)) e found);
  apart = no_message;
}

-- ---- a first message found by going on

-- the front of k + 1 bytes is none either
pub none_more : (stream : List ℕ) (k : ℕ) → HasNoMessage stream k → is_message (take (k + 1) stream) ≡ false
    → HasNoMessage stream (k + 1)
none_more stream k none here n le found = elim (cases_lt n (k + 1)) [
  | inl below ↦ none n (omega arith) found
  | inr above ↦
      let same : n ≡ k + 1 = omega arith in
      no_message_of (take (k + 1) stream) here (subst (λ (m : ℕ). IsMessage (take m stream)) same found)
]

-- the front of k + 1 bytes is the first message
pub first_message : (stream : List ℕ) (k : ℕ) → k + 1 ≤ length stream → HasNoMessage stream k
    → is_message (take (k + 1) stream) ≡ true → IsFirstMessage stream (take (k + 1) stream)
first_message stream k within none here =
    let is : length (take (k + 1) stream) ≡ k + 1 = omega (arith, length-take (k + 1) stream) in record {
      front = ap (λ (n : ℕ). take n stream) is;
      is_one = message_of (take (k + 1) stream) here;
      shortest = λ n below. none n (omega arith);
    }

-- ---- heads

take_front : (n : ℕ) (bytes more : List ℕ) → (rest : List ℕ) × (take n (bytes ++ more) ≡ take n bytes ++ rest)
take_front zero bytes more = ([], refl)
take_front (suc n) [] more = (take (suc n) more, refl)
take_front (suc n) (b ∷ bytes) more = let later = take_front n bytes more in (later.0, ap (λ (t : List ℕ). b ∷ t) later.1)

pub heads_stay : HeadsStay
heads_stay bytes more seen found =
    let front = take_front 8192 bytes more in
    let reads = ReadsRequest-append (take 8192 bytes) found.0 found.1.rest front.0 found.1.reads in (
      found.0,
      record {
        rest = found.1.rest ++ front.0;
        reads = subst (λ (t : List ℕ). ReadsRequest t found.0 (found.1.rest ++ front.0)) (sym front.1) reads;
        room = found.1.room;
      },
      found.2,
    )
