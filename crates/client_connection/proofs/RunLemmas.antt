-- Runs of a client's end.
use Rattle.std.proofs.Common.{◌≡◌, ◌≢◌, ℕ, zero, suc, ◌+◌, ◌-◌, ◌<◌, ◌≤◌, Bool, true, false, List, [], ◌∷◌, ◌++◌, length, map, take, drop, Option, Some, None, refl, sym, ap, ◌∙◌, subst, arith, inl, inr, append_assoc, append-nil, length-append, length-drop, take-append-drop, Ok, Err}
use Rattle.std.specs.Prelude.{filter, if◌then◌else◌, not, unwrap_or}
use Rattle.std.proofs.lemmas.Bool.{cases_Bool}
use Rattle.std.proofs.lemmas.List.{map-append, take-append-le, take_all}
use Rattle.std.proofs.lemmas.List.Elements.{filter-append}
use Rattle.std.proofs.lemmas.Option.{none-some}
use Rattle.http_range.specs.declared.frame.Frame.{Frame}
use Rattle.http_range.specs.declared.reading.Why.TheVariants.{Cut}
use Rattle.http_range.specs.Frame.{ReadsFrame, is_interim}
use Rattle.http_range.specs.Laws.{FramesGrow}
use Rattle.client_connection.specs.declared.parts.Turn.{Turn}
use Rattle.client_connection.specs.declared.parts.Turn.TheVariants.{Anew, Sends, Sent}
use Rattle.client_connection.specs.declared.parts.Part.{Part}
use Rattle.client_connection.specs.declared.parts.Part.TheVariants.{Again, Begun, Body, Head, Interim, Refused, Stray}
use Rattle.client_connection.specs.Answers.{Answer, AreAnswers, IsAnswer, IsShort, LetGoOn, bytes_of, finals, is_final, joined, size_of}
use Rattle.client_connection.specs.Status.{Status, Takes, sends, turn_of, turned, is_again}
use Rattle.client_connection.specs.Run.{Connection, Past, IsInOrder, IsOver, AreOver, IsUnderWay, IsLive, IsNow, IsOrderly, none_yet, Event, CanHappen, CanRun, asks, happened, run, AnswersAreInOrder, CutsDoNotMatter}
use Rattle.client_connection.specs.Run.Event.{Asked, SentEarly, Opened, Wrote, Came, Finished, Gone, Ended}

-- ---- lists

joined-append : (xs ys : List (List ℕ)) → joined (xs ++ ys) ≡ joined xs ++ joined ys
joined-append [] ys = refl
joined-append (x ∷ xs) ys =
    ap (λ (t : List ℕ). x ++ t) (joined-append xs ys) ∙ sym (append_assoc x (joined xs) (joined ys))

joined-end : (ts : List (List ℕ)) (t : List ℕ) → joined (ts ++ t ∷ []) ≡ joined ts ++ t
joined-end ts t = joined-append ts (t ∷ []) ∙ ap (λ (xs : List ℕ). joined ts ++ xs) (append-nil t)

bytes-end : (rs : List Answer) (a : Answer) → bytes_of (rs ++ a ∷ []) ≡ bytes_of rs ++ a.bytes
bytes-end rs a = ap joined (map-append (λ (x : Answer). x.bytes) rs (a ∷ [])) ∙ joined-end (map (λ x. x.bytes) rs) a.bytes

finals-append : (rs bs : List Answer) → finals (rs ++ bs) ≡ finals rs ++ finals bs
finals-append rs bs =
    ap (map (λ (a : Answer). a.bytes)) (filter-append is_final rs bs)
    ∙ map-append (λ (a : Answer). a.bytes) (filter is_final rs) (filter is_final bs)

drop-end : (n : ℕ) (ts : List (List ℕ)) (t : List ℕ) → n ≤ length ts → drop n (ts ++ t ∷ []) ≡ drop n ts ++ t ∷ []
drop-end zero ts t few = refl
drop-end (suc n) [] t few = absurd (omega (arith, few))
drop-end (suc n) (x ∷ ts) t few = drop-end n ts t (omega (arith, few))

drop-suc : (n : ℕ) (ts : List (List ℕ)) → drop 1 (drop n ts) ≡ drop (suc n) ts
drop-suc zero [] = refl
drop-suc (suc n) [] = refl
drop-suc zero (x ∷ ts) = refl
drop-suc (suc n) (x ∷ ts) = drop-suc n ts

drop-one : (n : ℕ) (ts : List (List ℕ)) → drop 1 (drop n ts) ≡ drop (n + 1) ts
drop-one n ts = let e : suc n ≡ n + 1 = omega arith in drop-suc n ts ∙ ap (λ (k : ℕ). drop k ts) e

all-end : (rs : List Answer) (a : Answer) → AreAnswers rs → IsAnswer a → AreAnswers (rs ++ a ∷ [])
all-end [] a h is = (is, tt)
all-end (x ∷ rs) a h is = (h.0, all-end rs a h.1 is)

go_on-end : (rs : List Answer) (a : Answer) → LetGoOn rs → (is_final a ≡ true → a.frame.closes ≡ false) → LetGoOn (rs ++ a ∷ [])
go_on-end [] a h is = (is, tt)
go_on-end (x ∷ rs) a h is = (h.0, go_on-end rs a h.1 is)

go_on-take : (n : ℕ) (rs : List Answer) → LetGoOn rs → LetGoOn (take n rs)
go_on-take zero rs h = tt
go_on-take (suc n) [] h = tt
go_on-take (suc n) (x ∷ rs) h = (h.0, go_on-take n rs h.1)

-- all but the last
but_last : (rs : List Answer) (a : Answer) → take (length (rs ++ a ∷ []) - 1) (rs ++ a ∷ []) ≡ rs
but_last rs a =
    let size : length (rs ++ a ∷ []) - 1 ≡ length rs = omega (arith, length-append rs (a ∷ [])) in
    ap (λ (n : ℕ). take n (rs ++ a ∷ [])) size ∙ take-append-le (length rs) rs (a ∷ []) (omega arith)
    ∙ take_all (length rs) rs (omega arith)

-- ---- the present connection

live : (p : Past) → p.status.is_open ≡ true → IsOrderly p → IsLive p
live p opens h = subst (λ (b : Bool). IsNow b p) opens h.now

over_of : (p : Past) → IsLive p → IsOver p.now
over_of p h = (p.status.waits, p.front, [], h.order)

is_over : (p : Past) → IsOrderly p → IsOver p.now
is_over p h = elim (cases_Bool p.status.is_open) [
  | inl opens ↦ over_of p (live p opens h)
  | inr none ↦ subst (λ (b : Bool). IsNow b p) none h.now
]

-- the connection is over
ended : (p q : Past) → q.before ≡ p.before → q.status.is_open ≡ false → IsOver q.now → IsOrderly p → IsOrderly q
ended p q same none is h =
    record { before = subst AreOver (sym same) h.before; now = subst (λ (b : Bool). IsNow b q) (sym none) is }

goes : (p q : Past) → q.before ≡ p.before → q.status.is_open ≡ true → IsLive q → IsOrderly p → IsOrderly q
goes p q same opens is h =
    record { before = subst AreOver (sym same) h.before; now = subst (λ (b : Bool). IsNow b q) (sym opens) is }

-- ---- requests

under_alike : (left : Option ℕ) (s t : Status) (front : List ℕ) → t.head ≡ s.head → t.closes ≡ s.closes → IsUnderWay left s front
    → IsUnderWay left t front
under_alike None s t front head closes h = h ∙ sym head
under_alike (Some n) s t front head closes h = (h.0, h.1, h.2, h.3 ∙ sym closes, h.4)

sent_kept : (p : Past) (text : List ℕ) → IsLive p → IsLive (happened (SentEarly text) p)
sent_kept p text h =
    let o = h.order in
    let few = o.few in
    record {
      order = record {
        wrote =
            sym (append_assoc p.now.wrote p.status.waits text) ∙ ap (λ (xs : List ℕ). xs ++ text) o.wrote
            ∙ sym (joined-end p.now.asked text);
        answers = o.answers;
        each = o.each;
        texts = o.texts;
        came = o.came;
        few = omega (arith, few, length-append p.now.asked (text ∷ []));
        goes_on = o.goes_on;
      };
      goes_on = h.goes_on;
      under = under_alike p.status.left p.status (sends text p.status) p.front refl refl h.under;
      out =
          ap (λ (xs : List (List ℕ)). xs ++ text ∷ []) h.out
          ∙ sym (drop-end (length p.now.texts) p.now.asked text few);
      begun = λ left is. omega (arith, h.begun left is, length-append p.now.asked (text ∷ []));
    }

sends_open : (text : List ℕ) (s : Status) → turn_of text s ≡ Sends → s.is_open ≡ true
sends_open text s e = elim (cases_Bool s.is_open) [
  | inl opens ↦ opens
  | inr none ↦ (let clash : Anew ≡ Sends = rw none at e in cc)
]

asked_by : (p : Past) (text : List ℕ) (t : Turn) → turn_of text p.status ≡ t → IsOrderly p
    → IsOrderly (record p { now = asks t text p.now; status = turned t text p.status })
asked_by p text Sent e h = h
asked_by p text Sends e h =
    let opens = sends_open text p.status e in
    goes p (happened (SentEarly text) p) refl opens (sent_kept p text (live p opens h)) h
asked_by p text Anew e h = record { before = h.before; now = is_over p h }

-- ---- events

wrote_kept : (p : Past) (n : ℕ) → IsLive p → IsLive (happened (Wrote n) p)
wrote_kept p n h =
    let o = h.order in
    record {
      order = record {
        wrote =
            append_assoc p.now.wrote (take n p.status.waits) (drop n p.status.waits)
            ∙ ap (λ (xs : List ℕ). p.now.wrote ++ xs) (take-append-drop n p.status.waits) ∙ o.wrote;
        answers = o.answers;
        each = o.each;
        texts = o.texts;
        came = o.came;
        few = o.few;
        goes_on = o.goes_on;
      };
      goes_on = h.goes_on;
      under = under_alike p.status.left p.status (record (p.status) { waits = drop n p.status.waits }) p.front refl refl h.under;
      out = h.out;
      begun = h.begun;
    }

opened_kept : (p : Past) → IsLive (happened Opened p)
opened_kept p = record {
  order = record { wrote = refl; answers = []; each = tt; texts = refl; came = refl; few = omega arith; goes_on = tt };
  goes_on = tt;
  under = refl;
  out = refl;
  begun = λ left is. absurd (none-some left is);
}

-- what came of the answer under way grows
came_more : (c : Connection) (unwritten front bytes : List ℕ) → IsInOrder c unwritten front []
    → IsInOrder (record c { came = c.came ++ bytes }) unwritten (front ++ bytes) []
came_more c unwritten front bytes o = record {
  wrote = o.wrote;
  answers = o.answers;
  each = o.each;
  texts = o.texts;
  came =
      ap (λ (xs : List ℕ). xs ++ bytes) (o.came ∙ ap (λ (xs : List ℕ). bytes_of o.answers ++ xs) (append-nil front))
      ∙ append_assoc (bytes_of o.answers) front bytes
      ∙ ap (λ (xs : List ℕ). bytes_of o.answers ++ xs) (sym (append-nil (front ++ bytes)));
  few = o.few;
  goes_on = o.goes_on;
}

came_over : (p : Past) (bytes : List ℕ) → IsLive p → IsOver (record (p.now) { came = p.now.came ++ bytes })
came_over p bytes h = (p.status.waits, p.front ++ bytes, [], came_more p.now p.status.waits p.front bytes h.order)

-- so much came of a head that isn't whole
head_is : (p : Past) → p.status.left ≡ None → IsLive p → p.front ≡ p.status.head
head_is p none h = subst (λ (l : Option ℕ). IsUnderWay l p.status p.front) none h.under

-- what came is one more answer, which answers nothing where it is an interim one
whole_order : (c : Connection) (unwritten front : List ℕ) (a : Answer) (texts : List (List ℕ)) → (o : IsInOrder c unwritten front [])
    → IsAnswer a → a.bytes ≡ front → texts ≡ c.texts ++ finals (a ∷ []) → LetGoOn o.answers → length texts ≤ length c.asked
    → IsInOrder (record c { texts = texts }) unwritten [] []
whole_order c unwritten front a texts o is same more goes_on few = record {
  wrote = o.wrote;
  answers = o.answers ++ a ∷ [];
  each = all-end o.answers a o.each is;
  texts = more ∙ ap (λ (xs : List (List ℕ)). xs ++ finals (a ∷ [])) o.texts ∙ sym (finals-append o.answers (a ∷ []));
  came =
      o.came ∙ ap (λ (xs : List ℕ). bytes_of o.answers ++ xs) (append-nil front ∙ sym same)
      ∙ sym (bytes-end o.answers a) ∙ sym (append-nil (bytes_of (o.answers ++ a ∷ [])));
  few = few;
  goes_on = subst LetGoOn (sym (but_last o.answers a)) goes_on;
}

finals_of : (a : Answer) (interim : Bool) → is_interim a.frame ≡ interim → finals (a ∷ []) ≡ (if interim then [] else a.bytes ∷ [])
finals_of a true is = rw is refl
finals_of a false is = rw is refl

whole_size : (frame : Frame) (interim : Bool) → is_interim frame ≡ interim
    → size_of frame ≡ (if interim then frame.size else frame.size + unwrap_or frame.length 0)
whole_size frame interim is = rw is refl

-- ---- bytes that came

head_came : (p : Past) (bytes : List ℕ) → p.status.left ≡ None → IsLive p
    → IsLive (happened (Came Head bytes (record (p.status) { head = p.status.head ++ bytes })) p)
unfolding came_more
head_came p bytes none h = record {
  order = came_more p.now p.status.waits p.front bytes h.order;
  goes_on = h.goes_on;
  under =
      subst (λ (l : Option ℕ). IsUnderWay l (record (p.status) { head = p.status.head ++ bytes }) (p.front ++ bytes)) (sym none)
      (ap (λ (xs : List ℕ). xs ++ bytes) (head_is p none h));
  out = h.out;
  begun = h.begun;
}

interim_came : (p : Past) (bytes : List ℕ) (frame : Frame) → p.status.left ≡ None → ReadsFrame (p.status.head ++ bytes) (Ok frame)
    → length (p.status.head ++ bytes) ≡ frame.size → is_interim frame ≡ true → IsLive p
    → IsLive (happened (Came Interim bytes (record (p.status) { head = []; interims = p.status.interims + 1 })) p)
unfolding came_more whole_order
interim_came p bytes frame none reads whole is h =
    let a : Answer = record { bytes = p.status.head ++ bytes; frame = frame } in
    let c = record (p.now) { came = p.now.came ++ bytes } in
    let o = came_more p.now p.status.waits p.front bytes h.order in
    let answers : IsAnswer a = record { reads = reads; whole = whole ∙ sym (whole_size frame true is) } in
    let same : a.bytes ≡ p.front ++ bytes = ap (λ (xs : List ℕ). xs ++ bytes) (sym (head_is p none h)) in
    let texts : c.texts ≡ c.texts ++ finals (a ∷ []) =
    sym (append-nil c.texts) ∙ ap (λ (xs : List (List ℕ)). c.texts ++ xs) (sym (finals_of a true is)) in
    record {
      order = whole_order c p.status.waits (p.front ++ bytes) a c.texts o answers same texts h.goes_on o.few;
      goes_on = go_on-end o.answers a h.goes_on (λ final. let clash : false ≡ true = sym (ap not is) ∙ final in cc);
      under =
          subst (λ (l : Option ℕ). IsUnderWay l (record (p.status) { head = []; interims = p.status.interims + 1 }) []) (sym none) refl;
      out = h.out;
      begun = h.begun;
    }

begun_came : (p : Past) (bytes : List ℕ) (frame : Frame) → p.status.left ≡ None → ReadsFrame (p.status.head ++ bytes) (Ok frame)
    → length (p.status.head ++ bytes) ≡ frame.size → is_interim frame ≡ false → 0 < length p.status.out → IsLive p
    → IsLive (happened (Came Begun bytes (record (p.status) {
      head = p.status.head ++ bytes;
      left = Some (unwrap_or frame.length 0);
      closes = frame.closes;
      interims = 0;
    })) p)
unfolding came_more
begun_came p bytes frame none reads whole is some h =
    let same : p.status.head ++ bytes ≡ p.front ++ bytes = ap (λ (xs : List ℕ). xs ++ bytes) (sym (head_is p none h)) in
    record {
      order = came_more p.now p.status.waits p.front bytes h.order;
      goes_on = h.goes_on;
      under = (
        frame,
        subst (λ (t : List ℕ). ReadsFrame t (Ok frame)) same reads,
        is,
        refl,
        ap (λ (n : ℕ). n + unwrap_or frame.length 0) (ap length (sym same) ∙ whole) ∙ sym (whole_size frame false is),
      );
      out = h.out;
      begun = λ left e. omega (arith, some, ap length h.out, length-drop (length p.now.texts) p.now.asked);
    }

body_came : FramesGrow → (p : Past) (bytes : List ℕ) (left : ℕ) → p.status.left ≡ Some left → length bytes ≤ left → IsLive p
    → IsLive (happened (Came Body bytes (record (p.status) { left = Some (left - length bytes) })) p)
unfolding came_more
body_came law p bytes left is few h =
    let under = subst (λ (l : Option ℕ). IsUnderWay l p.status p.front) is h.under in
    let total = under.4 in
    let whole : Ok under.0 ≢ Err Cut = λ e. absurd (cc) in
    record {
      order = came_more p.now p.status.waits p.front bytes h.order;
      goes_on = h.goes_on;
      under = (
        under.0,
        law.stays p.front bytes (Ok under.0) whole under.1,
        under.2,
        under.3,
        omega (arith, total, few, length-append p.front bytes),
      );
      out = h.out;
      begun = λ n e. h.begun left is;
    }

-- the status after the call is this one
by_status : (p : Past) (part : Part) (bytes : List ℕ) (after status : Status) → after ≡ status
    → IsOrderly (happened (Came part bytes status) p) → IsOrderly (happened (Came part bytes after) p)
by_status p part bytes after status is h = subst (λ (s : Status). IsOrderly (happened (Came part bytes s) p)) (sym is) h

bytes_came : FramesGrow → (p : Past) (part : Part) (bytes : List ℕ) (after : Status) → p.status.is_open ≡ true
    → Takes part bytes p.status after → (¬ (part ≡ Stray) → 0 < length p.status.out) → IsOrderly p
    → IsOrderly (happened (Came part bytes after) p)
bytes_came law p Stray bytes after opens takes own h =
    ended p (happened (Came Stray bytes after) p) refl (ap (λ (s : Status). s.is_open) takes.1) (came_over p bytes (live p opens h)) h
bytes_came law p Head bytes after opens takes own h =
    by_status p Head bytes after _ takes.1.1
    (goes p (happened (Came Head bytes (record (p.status) { head = p.status.head ++ bytes })) p) refl opens
    (head_came p bytes takes.0 (live p opens h)) h)
bytes_came law p Interim bytes after opens takes own h =
    let t = takes.1 in
    by_status p Interim bytes after _ t.5
    (goes p (happened (Came Interim bytes (record (p.status) { head = []; interims = p.status.interims + 1 })) p) refl opens
    (interim_came p bytes t.0 takes.0 t.1 t.2 t.3 (live p opens h)) h)
bytes_came law p Begun bytes after opens takes own h =
    let t = takes.1 in
    let some = own (λ e. absurd (cc)) in
    by_status p Begun bytes after _ t.4
    (goes p (happened (Came Begun bytes (record (p.status) {
      head = p.status.head ++ bytes;
      left = Some (unwrap_or t.0.length 0);
      closes = t.0.closes;
      interims = 0;
    })) p) refl opens
    (begun_came p bytes t.0 takes.0 t.1 t.2 t.3 some (live p opens h)) h)
bytes_came law p Body bytes after opens takes own h =
    by_status p Body bytes after _ takes.3
    (goes p (happened (Came Body bytes (record (p.status) { left = Some (takes.0 - length bytes) })) p) refl opens
    (body_came law p bytes takes.0 takes.1 takes.2 (live p opens h)) h)
bytes_came law p Again bytes after opens takes own h =
    ended p (happened (Came Again bytes after) p) refl (ap (λ (s : Status). s.is_open) takes.1.2) (came_over p bytes (live p opens h)) h
bytes_came law p Refused bytes after opens takes own h =
    ended p (happened (Came Refused bytes after) p) refl (ap (λ (s : Status). s.is_open) takes.1.1) (came_over p bytes (live p opens h)) h

-- ---- the end of an answer

-- the answer under way is whole: it is one more text
record IsFinished (p : Past) : Type 0 where
  order : IsInOrder (record (p.now) { texts = p.now.texts ++ p.front ∷ [] }) p.status.waits [] []
  goes_on : p.status.closes ≡ false → LetGoOn order.answers

finished : (p : Past) → p.status.left ≡ Some 0 → IsLive p → IsFinished p
unfolding whole_order
finished p is h =
    let under = subst (λ (l : Option ℕ). IsUnderWay l p.status p.front) is h.under in
    let a : Answer = record { bytes = p.front; frame = under.0 } in
    let total = under.4 in
    let answers : IsAnswer a = record { reads = under.1; whole = omega (arith, total) } in
    let texts : p.now.texts ++ p.front ∷ [] ≡ p.now.texts ++ finals (a ∷ []) =
    ap (λ (xs : List (List ℕ)). p.now.texts ++ xs) (sym (finals_of a false under.2)) in
    record {
      order =
          whole_order p.now p.status.waits p.front a (p.now.texts ++ p.front ∷ []) h.order answers refl texts h.goes_on
          (omega (arith, h.begun 0 is, length-append p.now.texts (p.front ∷ [])));
      goes_on = λ stays. go_on-end h.order.answers a h.goes_on (λ final. under.3 ∙ stays);
    }

finished_on : (p : Past) → p.status.left ≡ Some 0 → p.status.closes ≡ false → IsLive p → IsLive (happened Finished p)
finished_on p is stays h =
    let f = finished p is h in
    rw stays (record {
      order = f.order;
      goes_on = f.goes_on stays;
      under = refl;
      out =
          ap (λ (xs : List (List ℕ)). drop 1 xs) h.out ∙ drop-one (length p.now.texts) p.now.asked
          ∙ ap (λ (k : ℕ). drop k p.now.asked) (sym (length-append p.now.texts (p.front ∷ [])));
      begun = λ left e. absurd (none-some left e);
    })

finished_kept : (p : Past) → p.status.is_open ≡ true → p.status.left ≡ Some 0 → IsOrderly p → IsOrderly (happened Finished p)
finished_kept p opens is h =
    let l = live p opens h in
    elim (cases_Bool p.status.closes) [
      | inl closes ↦ rw closes (record { before = h.before; now = (p.status.waits, [], [], (finished p is l).order) })
      | inr stays ↦
          let q = happened Finished p in
          let on : q.status.is_open ≡ true = rw stays opens in
          goes p q refl on (finished_on p is stays l) h
    ]

gone_kept : (p : Past) → IsOrderly p → IsOrderly (happened Gone p)
gone_kept p h = elim (cases_Bool (is_again p.status)) [
  | inl again ↦ rw again (record { before = h.before; now = is_over p h })
  | inr never ↦ rw never (record { before = h.before; now = is_over p h })
]

-- ---- all of them

step : FramesGrow → (e : Event) (p : Past) → CanHappen e p.status → IsOrderly p → IsOrderly (happened e p)
step law (Asked text) p can h = asked_by p text (turn_of text p.status) refl h
step law (SentEarly text) p can h = goes p (happened (SentEarly text) p) refl can (sent_kept p text (live p can h)) h
step law Opened p can h = record { before = (is_over p h, h.before); now = opened_kept p }
step law (Wrote n) p can h = goes p (happened (Wrote n) p) refl can.0 (wrote_kept p n (live p can.0 h)) h
step law (Came part bytes after) p can h = bytes_came law p part bytes after can.0 can.1 can.2 h
step law Finished p can h = finished_kept p can.0 can.1 h
step law Gone p can h = gone_kept p h
step law Ended p can h = record { before = h.before; now = is_over p h }

begins : IsOrderly none_yet
begins = record {
  before = tt;
  now =
      ([], [], [], record { wrote = refl; answers = []; each = tt; texts = refl; came = refl; few = omega arith; goes_on = tt });
}

runs : FramesGrow → (es : List Event) (p : Past) → CanRun es p → IsOrderly p → IsOrderly (run es p)
runs law [] p can h = h
runs law (e ∷ es) p can h = runs law es (happened e p) can.1 (step law e p can.0 h)

pub answers_are_in_order : FramesGrow → AnswersAreInOrder
answers_are_in_order law es can = runs law es none_yet can begins

-- ---- answers in one way

same_front : (bs cs xs ys : List ℕ) → length bs ≡ length cs → bs ++ xs ≡ cs ++ ys → (bs ≡ cs) × (xs ≡ ys)
same_front [] [] xs ys same e = (refl, e)
same_front [] (c ∷ cs) xs ys same e = absurd (omega (arith, same))
same_front (b ∷ bs) [] xs ys same e = absurd (omega (arith, same))
same_front (b ∷ bs) (c ∷ cs) xs ys same e =
    let head : b ≡ c = cc in
    let tail : bs ++ xs ≡ cs ++ ys = cc in
    let both = same_front bs cs xs ys (omega (arith, same)) tail in
    (ap (λ (x : ℕ). x ∷ bs) head ∙ ap (λ (zs : List ℕ). c ∷ zs) both.0, both.1)

-- the head of the first answer is read of all that follows
read_on : FramesGrow → (a : Answer) (more : List ℕ) → IsAnswer a → ReadsFrame (a.bytes ++ more) (Ok a.frame)
read_on law a more is = law.stays a.bytes more (Ok a.frame) (λ e. absurd (cc)) is.reads

same_answer : FramesGrow → (a b : Answer) (xs ys : List ℕ) → IsAnswer a → IsAnswer b → a.bytes ++ xs ≡ b.bytes ++ ys
    → (a ≡ b) × (xs ≡ ys)
same_answer law a b xs ys one other e =
    let reads = subst (λ (t : List ℕ). ReadsFrame t (Ok a.frame)) e (read_on law a xs one) in
    let same = law.one (b.bytes ++ ys) b.frame (Ok a.frame) (read_on law b ys other) reads in
    let frame : a.frame ≡ b.frame = cc in
    let both = same_front a.bytes b.bytes xs ys (one.whole ∙ ap size_of frame ∙ sym other.whole) e in
    (λ i. record { bytes = both.0 i; frame = frame i }, both.1)

-- a whole answer isn't less than one
not_short : FramesGrow → (a : Answer) (more front : List ℕ) → IsAnswer a → IsShort front → front ≡ a.bytes ++ more → ⊥
not_short law a more front is short e =
    let reads = subst (λ (t : List ℕ). ReadsFrame t (Ok a.frame)) (sym e) (read_on law a more is) in
    omega (arith, short a.frame reads, ap length e, length-append a.bytes more, is.whole)

pub cuts_do_not_matter : FramesGrow → CutsDoNotMatter
cuts_do_not_matter law [] [] front rest each other short less e = refl
cuts_do_not_matter law [] (b ∷ bs) front rest each other short less e =
    absurd (not_short law b (bytes_of bs ++ rest) front other.0 short (e ∙ append_assoc b.bytes (bytes_of bs) rest))
cuts_do_not_matter law (a ∷ xs) [] front rest each other short less e =
    absurd (not_short law a (bytes_of xs ++ front) rest each.0 less (sym e ∙ append_assoc a.bytes (bytes_of xs) front))
cuts_do_not_matter law (a ∷ xs) (b ∷ bs) front rest each other short less e =
    let both = same_answer law a b (bytes_of xs ++ front) (bytes_of bs ++ rest) each.0 other.0
    (sym (append_assoc a.bytes (bytes_of xs) front) ∙ e ∙ append_assoc b.bytes (bytes_of bs) rest) in
    ap (λ (x : Answer). x ∷ xs) both.0
    ∙ ap (λ (ys : List Answer). b ∷ ys) (cuts_do_not_matter law xs bs front rest each.1 other.1 short less both.1)
