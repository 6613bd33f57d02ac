use Rattle.std.proofs.Common.{refl}
use Rattle.cog_client.proofs.partial_answer.PartialAnswer.follow.Goals as goal

pub returns : goal.returns
returns c = record {
  body = c.new-body.result;
  part = c.self.inside.part.items;
  keeps = refl;
  span_is = c.new-body.ensures.span;
  begins = λ start. c.new-body.ensures.begins start c.self.inside.part.items;
}
