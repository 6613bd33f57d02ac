-- An answer in pieces: what a piece of it makes of the client.
use Rattle.std.proofs.Common.{◌≡◌, ℕ, ◌-◌, List, [], ◌++◌, length, take, drop, Option, Some, None, Ok, Err, sym, ap, ◌∙◌, subst, arith, inl, inr, length-append}
use Rattle.extents.specs.declared.span.Span.{Span}
use Rattle.http_range.specs.declared.reading.Why.TheVariants.{Cut}
use Rattle.http_range.specs.Announced.{Announced, announced, body_behind}
use Rattle.http_range.specs.Laws.{HeadsGrow}
use Rattle.range_cache.specs.Cache.{Blocks}
use Rattle.cog_client.specs.declared.partial_answer.Found.{Found}
use Rattle.cog_client.specs.declared.case.Case.{Case}
use Rattle.cog_client.specs.declared.case.Case.TheVariants.{Ignored, Adopted, Restarted, Accepted}
use Rattle.cog_client.specs.PartialAnswer.{IsHeadless, LooksOn, StartsBody, TakesBytes, TakesOn}
use Rattle.cog_client.specs.Body.{IsBody}
use Rattle.cog_client.specs.Case.{Revision}
use Rattle.cog_client.specs.Client.{ClientState, asked_of, blocks_of, feed_of, host_of, how_of, name_of, query_of, revision_of}
use Rattle.cog_client.specs.FedClient.{Begins, Fed, FedAllBut, FedBefore, FedBy, FedHeadless, FedPassed, case_for, revision_of_head}
use Rattle.cog_client.specs.AnswerPhase.{Feed, unused, passed, follows}
use Rattle.cog_client.specs.Steps.{Adopts}
use Rattle.cog_client.specs.Take.{first_span}

-- ---- what was kept of an answer doesn't matter to the next one

adopts_from : (v : Revision) (a : Option Span) (s mid : ClientState) (x : Feed) → Adopts v a (record s { feed = x }) mid → Adopts v a s mid
unfolding how_of host_of name_of query_of blocks_of
adopts_from v a s mid x h = record {
  same = record { host = h.same.host; name = h.same.name; query = h.same.query; how = h.same.how };
  asks = h.asks;
  revision = h.revision;
  blocks = h.blocks;
  report = h.report;
  knows = h.knows;
}

begins_from : (k : Case) (head : Announced) (s mid : ClientState) (x : Feed) → Begins k head (record s { feed = x }) mid → Begins k head s mid
unfolding asked_of
begins_from (Ignored w) head s mid x b = b
begins_from Adopted head s mid x b = adopts_from (revision_of_head head) (asked_of s) s mid x b
begins_from Restarted head s mid x b = adopts_from (revision_of_head head) (Some first_span) s mid x b
begins_from Accepted head s mid x (e, is) = (e, is)

by_from : (head : Announced) (s c : ClientState) (x : Feed) (body : List ℕ) → FedBy head (record s { feed = x }) body c → FedBy head s body c
unfolding asked_of revision_of
by_from head s c x body (inl p) = inl (record { reason = p.reason; is = p.is; same = p.same })
by_from head s c x body (inr b) = inr (record {
  taken = b.taken;
  part = b.part;
  feed = b.feed;
  mid = b.mid;
  begins = begins_from (case_for s head) head s b.mid x b.begins;
  asked = b.asked;
  is = b.is;
  same = b.same;
})

-- ---- the head

module _ (grow : HeadsGrow) (s : ClientState) (p bytes : List ℕ) (old new : ClientState) where
  -- no head was found in the bytes
  still_headless : LooksOn (feed_of old) bytes (feed_of new) None → IsHeadless p (feed_of old) → IsHeadless (p ++ bytes) (feed_of new)
  still_headless looks (inl o) = subst (λ (e : Feed). LooksOn e bytes (feed_of new) None) o.keeps looks
  still_headless looks (inr r) =
      let is : feed_of new ≡ unused r.reason = subst (λ (e : Feed). LooksOn e bytes (feed_of new) None) r.keeps looks in
      inr (record {
        reason = r.reason;
        keeps = is;
        reads = grow.stays p bytes (Err r.reason) (λ cut. r.settled.0 (let same : r.reason ≡ Cut = cc in same)) r.reads;
        settled = (r.settled.0, λ refused. let long = r.settled.1 refused in omega (arith, long, length-append p bytes));
      })

  -- one had been found before
  kept_feed : (head : Announced) (body : List ℕ) → LooksOn (feed_of old) bytes (feed_of new) None → FedBy head s body old → feed_of new ≡ feed_of old
  unfolding feed_of
  kept_feed head body looks (inl x) =
      let is : feed_of old ≡ passed x.reason = ap feed_of x.same in
      subst (λ (e : Feed). LooksOn e bytes (feed_of new) None) is looks ∙ sym is
  kept_feed head body looks (inr x) = subst (λ (e : Feed). LooksOn e bytes (feed_of new) None) x.feed looks ∙ sym x.feed

  still_old : new ≡ record old { feed = feed_of new } → feed_of new ≡ feed_of old → new ≡ old
  unfolding feed_of
  still_old same kept = same ∙ ap (λ (e : Feed). record old { feed = e }) kept

  pub looked_on : new ≡ record old { feed = feed_of new } → LooksOn (feed_of old) bytes (feed_of new) None → Fed s p old → FedBefore s (p ++ bytes) bytes new
  looked_on same looks (inl h) = inl (record {
    feed = still_headless looks h.feed;
    same = same ∙ ap (λ (o : ClientState). record o { feed = feed_of new }) h.same;
  })
  looked_on same looks (inr (head, reads, by)) = inr (record {
    head = head;
    reads = grow.stays p bytes (Ok head) (λ cut. cc) reads;
    body = body_behind head p;
    by = subst (FedBy head s (body_behind head p)) (sym (still_old same (kept_feed head (body_behind head p) looks by))) by;
    joins = sym (grow.body p bytes head reads);
  })

  -- the head was found in the bytes
  pub looked_found : (found : Found) (mid : ClientState) → mid ≡ record old { feed = feed_of mid } → LooksOn (feed_of old) bytes (feed_of mid) (Some found)
      → FedBy (announced found.head) mid [] new → Fed s p old → FedBefore s (p ++ bytes) (drop found.from bytes) new
  unfolding feed_of
  looked_found found mid same looks by (inl h) = elim h.feed [
    | inl o ↦
        let is = subst (λ (e : Feed). LooksOn e bytes (feed_of mid) (Some found)) o.keeps looks in
        let begun : mid ≡ record s { feed = feed_of mid } = same ∙ ap (λ (m : ClientState). record m { feed = feed_of mid }) h.same in
        let head = announced found.head in
        let zero : head.length - 0 ≡ head.length = omega arith in
        inr (record {
          head = head;
          reads = is.1.reads;
          body = [];
          by = by_from head s new (feed_of mid) [] (subst (λ (m : ClientState). FedBy head m [] new) begun by);
          joins = ap (λ (n : ℕ). take n (drop found.from bytes)) zero ∙ sym is.1.body;
        })
    | inr r ↦ absurd (subst (λ (e : Feed). LooksOn e bytes (feed_of mid) (Some found)) r.keeps looks)
  ]
  looked_found found mid same looks by (inr (head, reads, before)) = absurd (never before)
    where
      never : FedBy head s (body_behind head p) old → ⊥
      never (inl x) =
          let is : feed_of old ≡ passed x.reason = ap feed_of x.same in
          subst (λ (e : Feed). LooksOn e bytes (feed_of mid) (Some found)) is looks
      never (inr x) = subst (λ (e : Feed). LooksOn e bytes (feed_of mid) (Some found)) x.feed looks

-- ---- the body

module _ (s : ClientState) (p bytes : List ℕ) (old new : ClientState) (same : new ≡ record old { cache = blocks_of new; feed = feed_of new })
    (takes : TakesBytes (feed_of old) (blocks_of old) bytes (feed_of new) (blocks_of new)) where
  abbrev At : Feed → Type 0
  At e = TakesBytes e (blocks_of old) bytes (feed_of new) (blocks_of new)

  unchanged : feed_of new ≡ feed_of old → blocks_of new ≡ blocks_of old → new ≡ old
  unfolding feed_of blocks_of
  unchanged feed blocks =
      same ∙ ap (λ (e : Feed). record old { cache = blocks_of new; feed = e }) feed ∙ ap (λ (b : Blocks). record old { cache = b; feed = feed_of old }) blocks

  headless_on : IsHeadless p (feed_of old) → new ≡ old
  headless_on (inl o) = let w = subst At o.keeps takes in unchanged (w.0 ∙ sym o.keeps) w.1
  headless_on (inr r) = let w = subst At r.keeps takes in unchanged (w.0 ∙ sym r.keeps) w.1

  body_on : (b : FedAllBut s p bytes old) → FedBy b.head s b.body old → FedBy b.head s (body_behind b.head p) new
  unfolding feed_of
  body_on b (inl x) =
      let is : feed_of old ≡ passed x.reason = ap feed_of x.same in
      let w = subst At is takes in
      inl (subst (FedPassed b.head s) (sym (unchanged (w.0 ∙ sym is) w.1)) x)
  body_on b (inr x) =
      let t : TakesOn b.head (case_for s b.head) x.taken x.part (blocks_of old) bytes (feed_of new) (blocks_of new) = subst At x.feed takes in
      let left : x.taken.left ≡ b.head.length - length b.body = let l = x.is.left in omega (arith, l) in
      inr (record {
        taken = t.body;
        part = t.part;
        feed = t.keeps;
        mid = x.mid;
        begins = x.begins;
        asked = x.asked ∙ ap Some (sym t.span_is);
        is = subst (λ (xs : List ℕ). IsBody b.head (blocks_of x.mid) xs t.body t.part (blocks_of new))
            (ap (λ (n : ℕ). b.body ++ take n bytes) left ∙ b.joins) (t.extends b.head (blocks_of x.mid) b.body x.is);
        same = same ∙ ap (λ (o : ClientState). record o { cache = blocks_of new; feed = feed_of new }) x.same;
      })

  pub fed_on : FedBefore s p bytes old → Fed s p new
  fed_on (inl h) = inl (subst (FedHeadless s p) (sym (headless_on h.feed)) h)
  fed_on (inr b) = inr (b.head, b.reads, body_on b b.by)

-- ---- the case of a head is followed

pub followed : (head : Announced) (s mid new : ClientState) (k : Case) (span : Span) → k ≡ case_for s head → Begins k head s mid → asked_of mid ≡ Some span
    → StartsBody head k span (feed_of new) → new ≡ record mid { feed = feed_of new } → FedBy head s [] new
unfolding blocks_of
followed head s mid new k span is b asks st same =
    let blocks : blocks_of new ≡ blocks_of mid = ap blocks_of same in
    inr (record {
      taken = st.body;
      part = st.part;
      feed = st.keeps ∙ ap (λ (x : Case). follows head x st.body st.part) is;
      mid = mid;
      begins = subst (λ (x : Case). Begins x head s mid) is b;
      asked = asks ∙ ap Some (sym st.span_is);
      is = subst (λ (bs : Blocks). IsBody head (blocks_of mid) [] st.body st.part bs) (sym blocks) (st.begins (blocks_of mid));
      same = same ∙ ap (λ (bs : Blocks). record mid { cache = bs; feed = feed_of new }) (sym blocks);
    })
