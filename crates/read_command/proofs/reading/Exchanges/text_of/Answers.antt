use Rattle.std.specs.Prelude.{string_bytes}
use Rattle.read_command.proofs.FormLemmas.{written}
use Rattle.read_command.proofs.reading.Exchanges.text_of.Goals as goal

-- a description has the form that was asked for, and in words it names the tag of the report
pub returns-in_ok-text-in-Some-clause-written : goal.returns-in_ok-text-in-Some-clause-written
returns-in_ok-text-in-Some-clause-written g c =
    written c.args.client.now c.args.report.now c.in_ok-description-in-Description.field-0 c.in-Some.description c.args.asked c.in-Description.form c.in-Info.info
    (string_bytes c.in_ok-text-in-Some.field-0) c.from-in-Some.result c.requires c.in-Description.is c.in-Info.is c.in-Some.is
    c.in_ok-description-in-Description.ensures.described c.in_ok-text-in-Some.ensures.json c.in_ok-text-in-Some.ensures.words (cc) c.from-in-Some.ensures.samples
