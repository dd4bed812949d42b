use Rattle.std.proofs.Common.{subst, sym}
use Rattle.std.specs.Prelude.{IfErr, Result, Ok, Err}
use Rattle.clap.specs.Matches.{found_of}
use Rattle.shape_options.specs.Options.{ChangesNothing, IfGiven, IsInt, IsOpenType}
use Rattle.shape_options.proofs.options.refuse_unsupported.Goals as goal

-- whatever the error is
whatever : {A E : Type 0} (P : Type 0) (r : Result A E) → P → IfErr r (λ _. P)
whatever P (Ok x) holds = tt
whatever P (Err e) holds = holds

pub returns-clause-ok : goal.returns-clause-ok
returns-clause-ok c = record {
  loader = subst (IfGiven IsOpenType) c.get_str.ensures c.in_ok-refuse_loader.ensures.ok;
  load_flags = subst (IfGiven IsInt) c.get_str-2.ensures c.in_ok-refuse_load_flags.ensures.ok;
  functions = subst (IfGiven IsOpenType) c.get_str-3.ensures c.in_ok-refuse_functions.ensures.ok;
}

pub returns-in_err-refuse_loader-clause-err : goal.returns-in_err-refuse_loader-clause-err
returns-in_err-refuse_loader-clause-err c =
    whatever (ChangesNothing (found_of c.args.matches.now) → ⊥) c.from_residual.result
    (λ (nothing : ChangesNothing (found_of c.args.matches.now)). c.in_err-refuse_loader.ensures.err (subst (IfGiven IsOpenType) (sym c.get_str.ensures) nothing.loader))

pub returns-in_err-refuse_load_flags-clause-err : goal.returns-in_err-refuse_load_flags-clause-err
returns-in_err-refuse_load_flags-clause-err c =
    whatever (ChangesNothing (found_of c.args.matches.now) → ⊥) c.from_residual-in_err-refuse_load_flags.result
    (λ (nothing : ChangesNothing (found_of c.args.matches.now)). c.in_err-refuse_load_flags.ensures.err (subst (IfGiven IsInt) (sym c.get_str-2.ensures) nothing.load_flags))

pub returns-in_err-refuse_functions-clause-err : goal.returns-in_err-refuse_functions-clause-err
returns-in_err-refuse_functions-clause-err c =
    whatever (ChangesNothing (found_of c.args.matches.now) → ⊥) c.from_residual-in_err-refuse_functions.result
    (λ (nothing : ChangesNothing (found_of c.args.matches.now)). c.in_err-refuse_functions.ensures.err (subst (IfGiven IsOpenType) (sym c.get_str-3.ensures) nothing.functions))
