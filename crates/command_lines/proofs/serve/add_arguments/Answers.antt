use Rattle.std.proofs.Common.{List, [], subst, sym}
use Rattle.clap.specs.declared.builder.arg.Arg.{Arg}
use Rattle.command_lines.specs.Rules.{HaveRules}
use Rattle.command_lines.specs.ServeLine.{serve_app_of}
use Rattle.command_lines.proofs.ArgumentLemmas.{adds_last}
use Rattle.command_lines.proofs.serve.add_arguments.Goals as goal

pub returns : goal.returns
unfolding serve_app_of
returns c = adds_last c.add_flag-2.result _ _ _ _ _ c.add_flag-2.ensures (λ empty.
    let start = subst (λ (l : List Arg). HaveRules l []) (sym empty) tt in
    let needed = c.in_ok-add_valued-3.ensures _ (c.in_ok-add_valued-2.ensures _ (c.in_ok-add_valued.ensures [] start)) in
    let amounts = c.in_ok-add_choice-2.ensures _ (c.in_ok-add_choice.ensures _ (c.in_ok-add_files.ensures _ needed)) in
    c.in_ok-add_choice-4.ensures _ (c.in_ok-add_flag.ensures _ (c.in_ok-add_choice-3.ensures _ amounts)))
