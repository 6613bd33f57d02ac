use Rattle.std.proofs.Common.{refl, inl, arith}
use Rattle.cog_client.specs.Client.{feed_of}
use Rattle.cog_client.proofs.laws.law_answers_begin_anywhere.Goals as goal

pub returns : goal.returns
unfolding feed_of
returns c = λ k nothing. inl (record {
  feed = inl (record { keeps = nothing; short = omega arith; none = c.law_heads_grow.ensures.empty });
  same = refl;
})
