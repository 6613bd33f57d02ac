-- What is fetched, as exchanges in which anything may come.
use Rattle.std.proofs.Common.{◌≡◌, ℕ, zero, suc, List, Option, Some, None, Result, Ok, Err, refl, inl, inr, arith}
use Rattle.std.specs.Prelude.{IfOk, OnErr}
use Rattle.cog_client.specs.Client.{ClientState}
use Rattle.cog_client.specs.Keeps.{RequestsKeeping}
use Rattle.cog_client.specs.Transport.{Anything, Coming, Fetches, FetchesAll, FetchesSome, StopsFetching, StopsOnce, TakesOrLoses}

takes_anything : (came : Coming) (request : List ℕ) (old new : ClientState) → TakesOrLoses came request old new → TakesOrLoses Anything request old new
takes_anything came request old new (inl (lost, same)) = inl (tt, same)
takes_anything came request old new (inr (text, what, is, delivers)) = inr (text, what, tt, delivers)

fetches_anything : (came : Coming) (n : ℕ) (old new : ClientState) → Fetches came n old new → Fetches Anything n old new
fetches_anything came zero old new same = same
fetches_anything came (suc n) old new (mid, are, once) = (
  mid,
  fetches_anything came n old mid are,
  record { request = once.request; asking = once.asking; asks = once.asks; takes = takes_anything came once.request once.asking new once.takes },
)

stops_anything : (came : Coming) (old new : ClientState) → StopsOnce came old new → StopsOnce Anything old new
stops_anything came old new (inl asking) = inl asking
stops_anything came old new (inr x) = inr (record { request = x.request; asking = x.asking; asks = x.asks; text = x.text; came = tt; stops = x.stops })

-- nothing was done
pub none_fetched : (c : ClientState) → FetchesSome Anything c c
none_fetched c = (zero, record { times = zero; counted = refl; last = c; fetches = refl; ends = inl refl })

pub some_fetched : (came : Coming) (before after : ℕ) (old new : ClientState) → FetchesAll came before after old new → FetchesSome Anything old new
some_fetched came before after old new all =
    (all.times, record { times = all.times; counted = omega arith; last = all.last; fetches = fetches_anything came all.times old all.last all.fetches; ends = all.ends })

-- what is asked where no exchange is left has no answer
pub asked_once : (request : Option (List ℕ)) (old new : ClientState) → RequestsKeeping old request new → FetchesSome Anything old new
asked_once None old new asks = (zero, record { times = zero; counted = refl; last = old; fetches = refl; ends = inr asks })
asked_once (Some request) old new asks = (
  suc zero,
  record {
    times = suc zero;
    counted = omega arith;
    last = new;
    fetches = (old, refl, record { request = request; asking = new; asks = asks; takes = inl (tt, refl) });
    ends = inl refl;
  },
)

-- where a report or none was given
pub taken_all : {T E : Type 0} (r : Result T E) (x : T) (came : Coming) (P : T → Type 0) (before after : ℕ) (old new : ClientState) → r ≡ Ok x
    → IfOk r (λ t. P t × FetchesAll came before after old new) → FetchesAll came before after old new
taken_all (Ok t) x came P before after old new is (stands, all) = all
taken_all (Err e) x came P before after old new is none = cc

-- where memory was wanting
stopped_some : (came : Coming) (old new : ClientState) → StopsFetching came old new → StopsFetching Anything old new
stopped_some came old new (n, mid, are, stops) = (n, mid, fetches_anything came n old mid are, stops_anything came mid new stops)

pub stopped : {T E : Type 0} (r : Result T E) (e : E) (came : Coming) (old new : ClientState) → r ≡ Err e → OnErr r (StopsFetching came old new) → StopsFetching Anything old new
stopped (Ok t) e came old new is none = cc
stopped (Err f) e came old new is stops = stopped_some came old new stops

-- what holds after every refusal
pub refused : {T E : Type 0} (r : Result T E) (P : Type 0) → P → OnErr r P
refused (Ok t) P h = tt
refused (Err e) P h = h
