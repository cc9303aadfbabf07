-- A lawful machine keeps demand 3's four sentences, the last of them with its own number. Assumes nothing.
use Rattle.rounds.specs.Machine.{Machine}
use Rattle.rounds.specs.Sentences.{FourthIsRound, Sentences}
use Rattle.rounds.specs.Laws.{Look, Lawful}
use Rattle.rounds.proofs.Waiting.{named, same_packet_lem}
use Rattle.rounds.proofs.False.{few_false_lem}
use Rattle.rounds.proofs.Sent.{sent_exactly_lem}

-- Fourth.`round_after` gives the last premise of a machine whose number is 3
pub sentences : {M : Machine} {Good : M.State → Type 0} {L : Look M} → Lawful M Good L → FourthIsRound M → Sentences M
sentences W last =
    record {
      named = named W;
      same_packet = same_packet_lem W;
      few_false = few_false_lem W;
      sent_exactly = sent_exactly_lem W;
      fourth_is_round = last;
    }
