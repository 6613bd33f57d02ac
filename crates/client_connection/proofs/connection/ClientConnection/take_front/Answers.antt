use Rattle.std.proofs.Common.{◌≡◌, Err, subst, rules}
use Rattle.http_range.specs.declared.reading.Why.{Why}
use Rattle.http_range.specs.declared.reading.Why.TheVariants.{Cut}
use Rattle.http_range.specs.Frame.{ReadsFrame}
use Rattle.client_connection.proofs.HeadLemmas.{sound_cut}
use Rattle.client_connection.proofs.connection.ClientConnection.take_front.Goals as goal

pub invariant_of-self : goal.invariant_of-self
invariant_of-self c =
    let is : c.args.why ≡ Cut = search rules in
    sound_cut c.law_frames_grow.ensures _ _ c.args.head.items
    (subst (λ (why : Why). ReadsFrame c.args.head.items (Err why)) is c.requires.reads) c.self.invariant.alone
