-- What holds of all histories.
use Rattle.std.proofs.Common.{◌≡◌, ◌+◌, ℕ, Bool, List, [], ◌∷◌, refl, ap, sym, ◌∙◌, subst, arith, inl, inr}
use Rattle.std.specs.Prelude.{if◌then◌else◌}
use Rattle.client_connection.specs.Status.{Status}
use Rattle.http_range.specs.Announced.{Announced}
use Rattle.http_range.specs.Book.{Book, HasDistinctTags}
use Rattle.http_range.specs.Honest.{IsPieceOfBook, IsReadAs}
use Rattle.cog_client.specs.declared.case.Case.{Case}
use Rattle.cog_client.specs.declared.case.Case.TheVariants.{Accepted, Adopted, Ignored, Restarted}
use Rattle.cog_client.specs.Client.{ClientAgrees, ClientState, name_of}
use Rattle.cog_client.specs.FedClient.{Begins, Fed, FrontsKeepAgreement, case_for}
use Rattle.client_dialogue.specs.History.{AreRounds, IsUnder, Round}
use Rattle.client_dialogue.specs.History.Round.{LetGo, Made, Rested, Stopped, Unasked}
use Rattle.client_dialogue.specs.Truth.{AreHonest, HistoriesAreTrue, HistoriesBegin}

pub histories_begin : HistoriesBegin
histories_begin = λ c t status idle. record {
  can = tt;
  status = sym status;
  rounds = refl;
  under = subst (λ (b : Bool). IsUnder b c [] [] t.status c) (sym idle) (refl, ap (λ (s : Status). s.left) status);
  own = tt;
  few = subst (λ (b : Bool). 0 + (t.exchanges + (if b then 1 else 0)) ≡ t.exchanges) (sym idle) (omega arith);
}

-- ---- the name stays

begins_name : (case : Case) (head : Announced) (s mid : ClientState) → Begins case head s mid → name_of mid ≡ name_of s
unfolding name_of
begins_name (Ignored w) head s mid h = absurd h
begins_name Adopted head s mid h = h.same.name
begins_name Restarted head s mid h = h.same.name
begins_name Accepted head s mid h = ap name_of h.1

fed_name : (s : ClientState) (p : List ℕ) (c : ClientState) → Fed s p c → name_of c ≡ name_of s
unfolding name_of
fed_name s p c fed = elim fed [
  | inl headless ↦ ap name_of headless.same
  | inr headed ↦ elim headed.2 [
    | inl passed ↦ ap name_of passed.same
    | inr body ↦ ap name_of body.same ∙ begins_name (case_for s headed.0) headed.0 s body.mid body.begins
  ]
]

-- ---- and so does the agreement with a book

module _ (fronts : FrontsKeepAgreement) (book : Book) (distinct : HasDistinctTags book) (start : ClientState) (agrees : ClientAgrees start book) where
  abbrev Holds : ClientState → Type 0
  Holds c = (name_of c ≡ name_of start) × ClientAgrees c book

  honest_at : (c : ClientState) (text : List ℕ) → name_of c ≡ name_of start → IsReadAs (IsPieceOfBook (name_of start) book) text
      → IsReadAs (IsPieceOfBook (name_of c) book) text
  honest_at c text same h = subst (λ (n : List ℕ). IsReadAs (IsPieceOfBook n book) text) (sym same) h

  holds : (rs : List Round) (last : ClientState) → AreRounds rs start last → AreHonest start book rs → Holds last
  holds [] last h honest = subst Holds (sym h) (refl, agrees)
  holds (Made e ∷ rs) last h honest =
      let before = holds rs h.0 h.1 honest.1 in
      let asking = h.2.0 in
      let name = h.2.1.goes.seen.same.name ∙ before.0 in (
        h.2.2.seen.same.name ∙ name,
        h.2.2.agrees book distinct (h.2.1.goes.agrees book before.1) (honest_at asking e.text name honest.0),
      )
  holds (Rested ∷ rs) last h honest =
      let before = holds rs h.0 h.1 honest in
      (h.2.goes.seen.same.name ∙ before.0, h.2.goes.agrees book before.1)
  holds (Unasked ∷ rs) last h honest =
      let before = holds rs h.0 h.1 honest in
      (h.2.goes.seen.same.name ∙ before.0, h.2.goes.agrees book before.1)
  holds (Stopped request text ∷ rs) last h honest =
      let before = holds rs h.0 h.1 honest.1 in
      let asking = h.2.0 in
      let name = h.2.1.goes.seen.same.name ∙ before.0 in (
        h.2.2.same.name ∙ name,
        h.2.2.agrees book distinct (h.2.1.goes.agrees book before.1) (honest_at asking text name honest.0),
      )
  holds (LetGo request text ∷ rs) last h honest =
      let before = holds rs h.0 h.1 honest.1 in
      let asking = h.2.0 in
      let name = h.2.1.goes.seen.same.name ∙ before.0 in (
        fed_name asking text last h.2.2 ∙ name,
        fronts asking last text book h.2.2 distinct (h.2.1.goes.agrees book before.1) (honest_at asking text name honest.0),
      )

pub histories_are_true : FrontsKeepAgreement → HistoriesAreTrue
histories_are_true fronts = λ start allowed h t c is book distinct agrees honest.
    (holds fronts book distinct start agrees h.rounds h.last is.rounds honest).1
