-- One exchange more.
use Rattle.std.proofs.Common.{ℕ, zero, suc, ◌+◌, Bool, true, List, Some, None, refl, sym, subst, inl, inr, add-one}
use Rattle.std.specs.Prelude.{IsTrue}
use Rattle.cog_client.specs.Client.{ClientState}
use Rattle.cog_client.specs.Transport.{AnswersOn, Coming, Fetches, FetchesOnce, StopsFetching, StopsOnce, TakesOrLoses, UnlessTold}

pub takes_as : (before after : Coming) → AnswersOn before after → (request : List ℕ) (old new : ClientState)
    → TakesOrLoses after request old new → TakesOrLoses before request old new
takes_as before after on request old new (inl lost) = inl (on request None lost.0, lost.1)
takes_as before after on request old new (inr (text, what, came, delivers)) = inr (text, what, on request (Some text) came, delivers)

once_as : (before after : Coming) → AnswersOn before after → (old new : ClientState) → FetchesOnce after old new → FetchesOnce before old new
once_as before after on old new once = record {
  request = once.request;
  asking = once.asking;
  asks = once.asks;
  takes = takes_as before after on once.request once.asking new once.takes;
}

stops_as : (before after : Coming) → AnswersOn before after → (old new : ClientState) → StopsOnce after old new → StopsOnce before old new
stops_as before after on old new (inl asking) = inl asking
stops_as before after on old new (inr x) = inr (record {
  request = x.request;
  asking = x.asking;
  asks = x.asks;
  text = x.text;
  came = on x.request (Some x.text) x.came;
  stops = x.stops;
})

fetches_as : (before after : Coming) → AnswersOn before after → (n : ℕ) (old new : ClientState) → Fetches after n old new → Fetches before n old new
fetches_as before after on zero old new same = same
fetches_as before after on (suc n) old new (mid, are, once) = (mid, fetches_as before after on n old mid are, once_as before after on mid new once)

-- that a loss is told says nothing of a text
pub stops_untold : (answers : Coming) (old new : ClientState) → StopsFetching (UnlessTold true answers) old new → StopsFetching answers old new
stops_untold answers old new (n, mid, are, stops) =
    let on : AnswersOn answers (UnlessTold true answers) = λ request came is. is.0 in
    (n, mid, fetches_as answers (UnlessTold true answers) on n old mid are, stops_as answers (UnlessTold true answers) on mid new stops)

-- what comes of a source later might have come of it at first, and what came where no loss is told, where one is
module _ (before mid : Bool → Coming) (on : (lost : Bool) → AnswersOn (before lost) (mid lost)) (more : (told tells : Bool) → (IsTrue told → IsTrue tells) → AnswersOn (before tells) (before told)) (told tells : Bool) where
  pub fetches_still : (IsTrue told → IsTrue tells) → (n : ℕ) (old asked : ClientState) → Fetches (before told) n old asked → Fetches (before tells) n old asked
  fetches_still goes n old asked are = fetches_as (before tells) (before told) (more told tells goes) n old asked are

  pub fetches_more : (IsTrue told → IsTrue tells) → (n : ℕ) (old asked new : ClientState)
      → Fetches (before told) n old asked → FetchesOnce (mid tells) asked new → Fetches (before tells) (n + 1) old new
  fetches_more goes n old asked new are once =
      subst (λ k. Fetches (before tells) k old new) (sym (add-one n)) (
        asked,
        fetches_still goes n old asked are,
        once_as (before tells) (mid tells) (on tells) asked new once,
      )

  pub stops_more : (n : ℕ) (old asked new : ClientState) → Fetches (before told) n old asked → StopsOnce (mid true) asked new → StopsFetching (before true) old new
  stops_more n old asked new are stops =
      (n, asked, fetches_as (before true) (before told) (more told true (λ _. refl)) n old asked are, stops_as (before true) (mid true) (on true) asked new stops)
