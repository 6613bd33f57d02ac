use Rattle.std.proofs.Common.{◌≡◌, ◌∙◌, Bool, if◌then◌else◌, [], ℕ, List, ap, map, subst, sym, true}
use Rattle.clap.specs.Words.{App, HasKind, fault_of, kind_of, takes}
use Rattle.clap.specs.declared.error.kind.ErrorKind.TheVariants.{OutOfMemory}
use Rattle.command_lines.specs.QuickLine.{quick_app}
use Rattle.command_lines.specs.ServeLine.{serve_app}
use Rattle.command_lines.proofs.quick.start_line.Goals as goal

-- the command of the form that the words are of
of_form : (b form : Bool) → b ≡ form → (if form then serve_app else quick_app) ≡ (if b then serve_app else quick_app)
of_form b form is = ap (λ (f : Bool). if f then serve_app else quick_app) (sym is)

pub returns-in-Ok-clause-ok : goal.returns-in-Ok-clause-ok
returns-in-Ok-clause-ok g c = (sym c.is_full.ensures ∙ c.if-is_full.true, c.in-Ok.ensures.ok)

pub returns-in-Ok-clause-kinds : goal.returns-in-Ok-clause-kinds
returns-in-Ok-clause-kinds g c =
    let texts : List (List ℕ) = map g.S.AsStr.text c.args.words.now in
    subst (λ (a : App). fault_of a texts ≡ []) (of_form _ true (sym c.is_full.ensures ∙ c.if-is_full.true)) c.in-Ok.ensures.kinds

pub returns-in-Err-clause-err : goal.returns-in-Err-clause-err
returns-in-Err-clause-err g c =
    let texts : List (List ℕ) = map g.S.AsStr.text c.args.words.now in
    let error = c.in-Err.error in
    subst (λ (a : App). takes a texts ≡ true → kind_of error ≡ OutOfMemory) (of_form _ true (sym c.is_full.ensures ∙ c.if-is_full.true)) c.in-Err.ensures.err

pub returns-in-Err-clause-kinds : goal.returns-in-Err-clause-kinds
returns-in-Err-clause-kinds g c =
    let texts : List (List ℕ) = map g.S.AsStr.text c.args.words.now in
    let error = c.in-Err.error in
    subst (λ (a : App). HasKind (fault_of a texts) error) (of_form _ true (sym c.is_full.ensures ∙ c.if-is_full.true)) c.in-Err.ensures.kinds
