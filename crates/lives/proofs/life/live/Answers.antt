use Rattle.media_laws.specs.Model.{MediumModel}
use Rattle.memory_laws.specs.Calls.{Joins}
use Rattle.memory_laws.specs.Lives.{Life, CorrectsEach}
use Rattle.memory_laws.proofs.Exact.{corrects_each}
use Rattle.words.specs.Soundness.{Sound}
use Rattle.lives.specs.Promises.{AlwaysBringsBack}
use Rattle.lives.proofs.Living.{always_back}
use Rattle.lives.proofs.life.live.Given as given
use Rattle.lives.proofs.life.live.Goals as goal

-- what holds of each life over a sound code that ends in one state
module _ (g : given.Over) (code : g.row.C.Denot) (sound : Sound g.C.Code.refusal code) (end : MediumModel) (start : g.row.M.Denot) (s : Sound g.M.Medium.refusal start) (j : Joins (g.M.Medium.model start) (g.C.Code.model code)) (life : Life (g.C.Code.model code) (g.M.Medium.model start) end) where
  corrects : CorrectsEach life
  corrects = corrects_each (g.C.Code.model code) (g.met.C.Code.lawful code sound) (g.met.M.Medium.lawful start s) j life

  brings_back : AlwaysBringsBack life
  brings_back = always_back (g.C.Code.model code) (g.met.C.Code.lawful code sound) (g.met.M.Medium.lawful start s) j life

pub returns-in_err-check_rooms-clause-corrects : goal.returns-in_err-check_rooms-clause-corrects
returns-in_err-check_rooms-clause-corrects g c =
    let memory = c.args.memory.now in
    λ joined. corrects g memory.code joined.code (g.M.Medium.model memory.medium.now)

pub returns-in_err-check_rooms-clause-comes_back : goal.returns-in_err-check_rooms-clause-comes_back
returns-in_err-check_rooms-clause-comes_back g c =
    let memory = c.args.memory.now in
    λ joined. brings_back g memory.code joined.code (g.M.Medium.model memory.medium.now)

pub returns-clause-corrects : goal.returns-clause-corrects
returns-clause-corrects g c =
    λ joined. corrects g c.args.memory.now.code joined.code (g.M.Medium.model c.answer_calls.new.memory.medium.now)

pub returns-clause-comes_back : goal.returns-clause-comes_back
returns-clause-comes_back g c =
    λ joined. brings_back g c.args.memory.now.code joined.code (g.M.Medium.model c.answer_calls.new.memory.medium.now)
