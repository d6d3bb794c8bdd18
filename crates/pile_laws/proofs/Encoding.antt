-- The row of the stages' codewords of a message. Assumes nothing.
use Rattle.std.proofs.Common.{ℕ, ◌<◌, List, arith}
use Rattle.chains.specs.Model.{ChainModel, LawfulChain, Row}
use Rattle.codes.specs.Model.{CodeModel, Message}
use Rattle.pile_laws.specs.Build.{columns, labels_at, stage_messages, stage_words}
use Rattle.pile_laws.specs.Fit.{EachLawful, Fits}
use Rattle.pile_laws.specs.Pile.{pile}
use Rattle.pile_laws.proofs.Fitting.{fitting}
use Rattle.pile_laws.proofs.Law.{many, messages, words_of}
use Rattle.pile_laws.proofs.Rows.{row_at}

pub rows_encoded : (h : ChainModel) (law : LawfulChain h) (cs : List CodeModel) (laws : EachLawful cs) (fits : Fits h cs) (u : List ℕ) → Message (pile h cs) u → (j : ℕ) → j < columns cs → Row h (labels_at (stage_words cs u) j)
rows_encoded h law cs laws fits u m j l =
    let each = messages h law cs laws fits u m in
    let all = many h law cs laws fits (stage_messages cs u) each in
    row_at h (columns cs) cs (fitting h cs fits).0 (stage_words cs u) (words_of h law cs laws fits (stage_messages cs u) each) (omega (arith, all)) law all j l
