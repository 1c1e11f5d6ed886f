use Rattle.reply_text.proofs.degens.+push_degens_below.Given as goal

abbrev pub decreases-push_degens_below : goal.decreases-push_degens_below
decreases-push_degens_below l = l.n
