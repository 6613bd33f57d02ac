use Rattle.std.proofs.lemmas.Result.{err_from_is_err_and}
use Rattle.scripts.specs.Line.{texts}
use Rattle.scripts.specs.declared.verb.Verb.TheVariants.{AskFrom, Check, Epoch, Exchange, Forget}
use Rattle.scripts.proofs.EventLemmas.{askfrom_alone, check_alone, epoch_alone, exchange_alone, forget_alone, refused_by_number}
use Rattle.scripts.proofs.line.event_without_file.Goals as goal

pub returns-in_err-only_number-in-Epoch : goal.returns-in_err-only_number-in-Epoch
returns-in_err-only_number-in-Epoch c =
    let told = err_from_is_err_and c.from_residual.result c.from_residual.ensures.1 in
    refused_by_number Epoch c.args.verb (texts c.args.rest.now) c.from_residual.result told.0 c.in_err-only_number-in-Epoch.field-0.0 c.in-Epoch.is (epoch_alone (texts c.args.rest.now)) told.1 told.2 c.in_err-only_number-in-Epoch.ensures.read

pub returns-in_err-only_number-in-Forget : goal.returns-in_err-only_number-in-Forget
returns-in_err-only_number-in-Forget c =
    let told = err_from_is_err_and c.from_residual-in_err-only_number-in-Forget.result c.from_residual-in_err-only_number-in-Forget.ensures.1 in
    refused_by_number Forget c.args.verb (texts c.args.rest.now) c.from_residual-in_err-only_number-in-Forget.result told.0 c.in_err-only_number-in-Forget.field-0.0 c.in-Forget.is (forget_alone (texts c.args.rest.now)) told.1 told.2 c.in_err-only_number-in-Forget.ensures.read

pub returns-in_err-only_number-in-AskFrom : goal.returns-in_err-only_number-in-AskFrom
returns-in_err-only_number-in-AskFrom c =
    let told = err_from_is_err_and c.from_residual-in_err-only_number-in-AskFrom.result c.from_residual-in_err-only_number-in-AskFrom.ensures.1 in
    refused_by_number AskFrom c.args.verb (texts c.args.rest.now) c.from_residual-in_err-only_number-in-AskFrom.result told.0 c.in_err-only_number-in-AskFrom.field-0.0 c.in-AskFrom.is (askfrom_alone (texts c.args.rest.now)) told.1 told.2 c.in_err-only_number-in-AskFrom.ensures.read

pub returns-in_err-only_number-in-Exchange : goal.returns-in_err-only_number-in-Exchange
returns-in_err-only_number-in-Exchange c =
    let told = err_from_is_err_and c.from_residual-in_err-only_number-in-Exchange.result c.from_residual-in_err-only_number-in-Exchange.ensures.1 in
    refused_by_number Exchange c.args.verb (texts c.args.rest.now) c.from_residual-in_err-only_number-in-Exchange.result told.0 c.in_err-only_number-in-Exchange.field-0.0 c.in-Exchange.is (exchange_alone (texts c.args.rest.now)) told.1 told.2 c.in_err-only_number-in-Exchange.ensures.read

pub returns-in_err-only_number-in-Check : goal.returns-in_err-only_number-in-Check
returns-in_err-only_number-in-Check c =
    let told = err_from_is_err_and c.from_residual-in_err-only_number-in-Check.result c.from_residual-in_err-only_number-in-Check.ensures.1 in
    refused_by_number Check c.args.verb (texts c.args.rest.now) c.from_residual-in_err-only_number-in-Check.result told.0 c.in_err-only_number-in-Check.field-0.0 c.in-Check.is (check_alone (texts c.args.rest.now)) told.1 told.2 c.in_err-only_number-in-Check.ensures.read
