use Rattle.std.proofs.Common.{sym}
use Rattle.http_fields.proofs.FieldLemmas.{named_by}
use Rattle.http_fields.proofs.bytes.is_same_word.Goals as goal

pub returns : goal.returns
returns c =
    let test = c.eq_ignore_ascii_case.ensures.test in
    sym (named_by _ _ _ test.0 test.1)
