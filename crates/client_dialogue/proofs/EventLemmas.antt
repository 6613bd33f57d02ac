-- What one event more leaves as it is: the places of exchanges on their connections.
use Rattle.std.proofs.Common.{◌≡◌, ℕ, ◌+◌, List, [], ◌∷◌, ◌++◌, refl, sym, ap, ◌∙◌, inl, inr, append_assoc, append-nil}
use Rattle.client_connection.specs.Answers.{bytes_of}
use Rattle.client_connection.specs.declared.parts.Turn.{Turn}
use Rattle.client_connection.specs.declared.parts.Turn.TheVariants.{Anew, Sends, Sent}
use Rattle.client_connection.specs.Status.{turn_of}
use Rattle.client_connection.specs.Run.{CanHappen, CanRun, Connection, Event, Past, asks, happened, run}
use Rattle.client_connection.specs.Run.Event.{Asked, Came, Ended, Finished, Gone, Opened, SentEarly, Wrote}
use Rattle.cog_client.specs.Client.{ClientState}
use Rattle.client_dialogue.specs.History.{AreOwn, Exchange, IsBegunOn, IsOn, IsPlaced, Round, connections_of}
use Rattle.client_dialogue.specs.History.Round.{LetGo, Made, Rested, Stopped, Unasked}
use Rattle.client_dialogue.specs.Goes.{AreEarlyFor, came_by}

-- ---- one event more

pub run-end : (es : List Event) (e : Event) (p : Past) → run (es ++ e ∷ []) p ≡ happened e (run es p)
run-end [] e p = refl
run-end (x ∷ es) e p = run-end es e (happened x p)

pub can-end : (es : List Event) (e : Event) (p : Past) → CanRun es p → CanHappen e (run es p).status → CanRun (es ++ e ∷ []) p
can-end [] e p h is = (is, tt)
can-end (x ∷ es) e p h is = (h.0, can-end es e (happened x p) h.1 is)

pub came-append : (xs ys : List Event) → came_by (xs ++ ys) ≡ came_by xs ++ came_by ys
came-append [] ys = refl
came-append (Came part bytes after ∷ xs) ys =
    ap (λ (t : List ℕ). bytes ++ t) (came-append xs ys) ∙ sym (append_assoc bytes (came_by xs) (came_by ys))
came-append (Asked text ∷ xs) ys = came-append xs ys
came-append (SentEarly text ∷ xs) ys = came-append xs ys
came-append (Opened ∷ xs) ys = came-append xs ys
came-append (Wrote count ∷ xs) ys = came-append xs ys
came-append (Finished ∷ xs) ys = came-append xs ys
came-append (Gone ∷ xs) ys = came-append xs ys
came-append (Ended ∷ xs) ys = came-append xs ys

pub early-append : (c : ClientState) (xs ys : List Event) → AreEarlyFor c xs → AreEarlyFor c ys → AreEarlyFor c (xs ++ ys)
early-append c [] ys h k = k
early-append c (SentEarly text ∷ xs) ys h k = (h.0, early-append c xs ys h.1 k)
early-append c (Came part bytes after ∷ xs) ys h k = early-append c xs ys h k
early-append c (Asked text ∷ xs) ys h k = early-append c xs ys h k
early-append c (Opened ∷ xs) ys h k = early-append c xs ys h k
early-append c (Wrote count ∷ xs) ys h k = early-append c xs ys h k
early-append c (Finished ∷ xs) ys h k = early-append c xs ys h k
early-append c (Gone ∷ xs) ys h k = early-append c xs ys h k
early-append c (Ended ∷ xs) ys h k = early-append c xs ys h k

-- ---- places stay

pub record Extends (c d : Connection) : Type 0 where
  pub more_asked : List (List ℕ)
  pub asked : d.asked ≡ c.asked ++ more_asked
  pub more_texts : List (List ℕ)
  pub texts : d.texts ≡ c.texts ++ more_texts
  pub more_came : List ℕ
  pub came : d.came ≡ c.came ++ more_came

alike : (c d : Connection) → d.asked ≡ c.asked → d.texts ≡ c.texts → (more : List ℕ) → d.came ≡ c.came ++ more → Extends c d
alike c d a t more came = record {
  more_asked = [];
  asked = a ∙ sym (append-nil c.asked);
  more_texts = [];
  texts = t ∙ sym (append-nil c.texts);
  more_came = more;
  came = came;
}

pub same_came : (c : Connection) → c.came ≡ c.came ++ []
same_came c = sym (append-nil c.came)

placed_stays : (e : Exchange) (c d : Connection) → Extends c d → IsPlaced e c → IsPlaced e d
placed_stays e c d x h = record {
  asked_before = h.asked_before;
  asked_after = h.asked_after ++ x.more_asked;
  asked =
      x.asked ∙ ap (λ (ts : List (List ℕ)). ts ++ x.more_asked) h.asked
      ∙ append_assoc h.asked_before (e.request ∷ h.asked_after) x.more_asked;
  texts_before = h.texts_before;
  texts_after = h.texts_after ++ x.more_texts;
  texts =
      x.texts ∙ ap (λ (ts : List (List ℕ)). ts ++ x.more_texts) h.texts
      ∙ append_assoc h.texts_before (e.text ∷ h.texts_after) x.more_texts;
  place = h.place;
}

begun_stays : (e : Exchange) (c d : Connection) → Extends c d → IsBegunOn e c → IsBegunOn e d
begun_stays e c d x h = record {
  asked_before = h.asked_before;
  asked_after = h.asked_after ++ x.more_asked;
  asked =
      x.asked ∙ ap (λ (ts : List (List ℕ)). ts ++ x.more_asked) h.asked
      ∙ append_assoc h.asked_before (e.request ∷ h.asked_after) x.more_asked;
  answers = h.answers;
  each = h.each;
  place = h.place;
  rest = h.rest ++ x.more_came;
  came =
      x.came ∙ ap (λ (bytes : List ℕ). bytes ++ x.more_came) h.came
      ∙ append_assoc (bytes_of h.answers) (e.text ++ h.rest) x.more_came
      ∙ ap (λ (bytes : List ℕ). bytes_of h.answers ++ bytes) (append_assoc e.text h.rest x.more_came);
}

on_stays : (e : Exchange) (c d : Connection) → Extends c d → IsOn e c → IsOn e d
on_stays e c d x h = (begun_stays e c d x h.0, λ whole. placed_stays e c d x (h.1 whole))

own_stay : (rs : List Round) (c d : Connection) (cs : List Connection) → Extends c d → AreOwn rs (c ∷ cs) → AreOwn rs (d ∷ cs)
own_stay [] c d cs x h = tt
own_stay (Made e ∷ rs) c d cs x h = (
  elim h.0 [
    | inl some ↦ inl (elim some [
      | inl here ↦ inl (on_stays e c d x here)
      | inr there ↦ inr there
    ])
    | inr none ↦ inr none
  ],
  own_stay rs c d cs x h.1,
)
own_stay (Rested ∷ rs) c d cs x h = own_stay rs c d cs x h
own_stay (Unasked ∷ rs) c d cs x h = own_stay rs c d cs x h
own_stay (Stopped request text ∷ rs) c d cs x h = own_stay rs c d cs x h
own_stay (LetGo request text ∷ rs) c d cs x h = own_stay rs c d cs x h

own_more : (rs : List Round) (c : Connection) (cs : List Connection) → AreOwn rs cs → AreOwn rs (c ∷ cs)
own_more [] c cs h = tt
own_more (Made e ∷ rs) c cs h = (elim h.0 [ inl some ↦ inl (inr some) | inr none ↦ inr none ], own_more rs c cs h.1)
own_more (Rested ∷ rs) c cs h = own_more rs c cs h
own_more (Unasked ∷ rs) c cs h = own_more rs c cs h
own_more (Stopped request text ∷ rs) c cs h = own_more rs c cs h
own_more (LetGo request text ∷ rs) c cs h = own_more rs c cs h

asks_more : (t : Turn) (text : List ℕ) (c : Connection) → Extends c (asks t text c)
asks_more Sent text c = alike c c refl refl [] (same_came c)
asks_more Sends text c = record {
  more_asked = text ∷ [];
  asked = refl;
  more_texts = [];
  texts = sym (append-nil c.texts);
  more_came = [];
  came = same_came c;
}
asks_more Anew text c = alike c c refl refl [] (same_came c)

pub own_next : (e : Event) (p : Past) (rs : List Round) → AreOwn rs (connections_of p) → AreOwn rs (connections_of (happened e p))
own_next (Asked text) p rs h = own_stay rs p.now _ p.before (asks_more (turn_of text p.status) text p.now) h
own_next (SentEarly text) p rs h = own_stay rs p.now _ p.before (asks_more Sends text p.now) h
own_next Opened p rs h = own_more rs _ (p.now ∷ p.before) h
own_next (Wrote n) p rs h = own_stay rs p.now _ p.before (alike p.now _ refl refl [] (same_came p.now)) h
own_next (Came part bytes after) p rs h = own_stay rs p.now _ p.before (alike p.now _ refl refl bytes refl) h
own_next Finished p rs h =
    own_stay rs p.now _ p.before (record {
      more_asked = [];
      asked = sym (append-nil p.now.asked);
      more_texts = p.front ∷ [];
      texts = refl;
      more_came = [];
      came = same_came p.now;
    }) h
own_next Gone p rs h = h
own_next Ended p rs h = h
