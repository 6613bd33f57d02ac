use Rattle.std.proofs.Common.{refl}
use Rattle.tiff_dir.proofs.Told.{told_new, come_new, given_as}
use Rattle.tiff_dir.proofs.walk.Walk.new.Goals as goal

pub returns-clause-agrees : goal.returns-clause-agrees
returns-clause-agrees c = λ f. told_new f _ _ c.new.ensures.items

pub returns-clause-come : goal.returns-clause-come
returns-clause-come c = λ f. come_new f _ refl

pub returns-clause-given : goal.returns-clause-given
returns-clause-given c = given_as _
