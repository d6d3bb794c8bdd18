use Rattle.std.proofs.Common.{List, map, refl, sym, subst}
use Rattle.codes.specs.Model.{CodeModel}
use Rattle.codes.proofs.Working.{encode_passes, message_fits}
use Rattle.pile_laws.specs.Pile.{pile}
use Rattle.piles.specs.Sound.{SoundParts}
use Rattle.piles.proofs.pile.PileCode.encode.Goals as goal

pub write_codeword-requires : goal.write_codeword-requires
write_codeword-requires g c =
    let self = c.args.self.now in
    let model = g.A.Code.model in
    let h = g.H.Chain.model self.chain in
    let codes = c.codes-codes.result.now in
    let message = c.args.message.now in
    let word = c.args.word.now in
    let cs : List CodeModel = map model codes in
    let none = encode_passes (pile h cs) c.parameters.ensures message word c.in_ok-check_encode.ensures in
    let fit = message_fits (pile h cs) message word none in
    record {
      parts = subst (SoundParts g.H.Chain g.A.Code self.chain) (sym c.codes-codes.ensures) (c.in_ok-check.ensures.sound.0 refl);
      message = fit.0;
      word = fit.1;
    }
