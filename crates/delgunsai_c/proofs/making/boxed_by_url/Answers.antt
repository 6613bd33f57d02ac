use Rattle.std.proofs.Common.{refl}
use Rattle.cog_client.specs.declared.error.UrlError.TheVariants.{Memory}
use Rattle.delgunsai_c.proofs.making.boxed_by_url.Goals as goal

pub returns-in-None-clause-refused : goal.returns-in-None-clause-refused
returns-in-None-clause-refused c = record { error = Memory; is = refl; first = c.in-Ok.ensures.ok }
