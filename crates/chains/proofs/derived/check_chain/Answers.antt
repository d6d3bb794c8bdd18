use Rattle.std.proofs.Common.{◌≡◌, Ok, Err, OnOk, None, Option, Result}
use Rattle.words.specs.declared.fault.Fault.{Fault}
use Rattle.words.specs.Buffers.{checked}
use Rattle.words.proofs.Rises.{checked_ok}
use Rattle.chains.specs.Derived.{Derived}
use Rattle.chains.specs.FromLaw.{derived}
use Rattle.chains.proofs.derived.check_chain.Goals as goal

on_ok : (due : Option Fault) (P : Type 0) (r : Result (Unit {0}) Fault) → r ≡ checked due → (due ≡ None → P) → OnOk r P
on_ok due P (Ok t) e p = p (checked_ok due e)
on_ok due P (Err f) e p = tt

pub returns-clause-derived : goal.returns-clause-derived
returns-clause-derived g c =
    let h = c.args.chain.now in
    on_ok (g.H.Chain.refusal h) (Derived (g.H.Chain.model h)) c.check.result c.check.ensures.refused (λ s. derived (g.H.Chain.model h) (g.met.H.Chain.lawful h s))
