use Rattle.tte_observers.proofs.votes_lemmas.VoteLines.{line_of, line_text, put_one}
use Rattle.tte_observers.proofs.votes_lemmas.{Words.{◌∙◌, ap, arith, length, lines_at, sym}}
use Rattle.tte_observers.proofs.votes.putting.put_vote.Goals as goal

pub returns-clause-lines : goal.returns-clause-lines
returns-clause-lines g c =
    let network = c.args.network.now in
    let device = c.args.device in
    let votes = c.args.ballot.now in
    let text = c.as_slice-2.result.now in
    let less = c.if-device-as_slice.false in
    let many = ap length c.as_slice.ensures in
    let made = line_text text c.args.cycle _ _ _ _ (c.as_slice-2.ensures ∙ c.make_vote_line.ensures) c.device_name.ensures.text c.voted.ensures.value in
    put_one g.K.Sink c.put.result text (lines_at network c.args.cycle device votes) c.args.out.now c.put.new.self
    (line_of network c.args.cycle device votes text (omega (arith, less, many)) (sym c.is_cast.ensures ∙ c.if-not-is_cast.false) made) c.put.ensures.all
    c.put.ensures.front c.put.ensures.counted
