use Rattle.std.proofs.Common.{Ok, refl, sym, ap, ◌∙◌}
use Rattle.std.proofs.lemmas.Result.{err_from_is_err_and}
use Rattle.cards.specs.Runs.{counted, answered, emptied, showing}
use Rattle.book.proofs.Refusing.{exits}
use Rattle.quotes.proofs.Running.{on_offer, on_change, on_withdrawal, on_quote, on_recheck, on_discard, on_reading}
use Rattle.quotes.proofs.run.carry_out.Goals as goal

pub returns-in_err-offer-in-Offer : goal.returns-in_err-offer-in-Offer
returns-in_err-offer-in-Offer g c =
    let exit = c.from_residual in
    record {
      outcome = on_offer c.in-Offer.is c.offer.ensures.outcome (exits (err_from_is_err_and exit.result exit.ensures.1) ∙ ap counted (sym c.in_err-offer-in-Offer.was));
      links = c.offer.ensures.links;
      places = c.offer.ensures.places;
      workspace = record { same = refl; room = refl };
    }

pub returns-in_ok-offer-in-Offer : goal.returns-in_ok-offer-in-Offer
returns-in_ok-offer-in-Offer g c = record {
  outcome = on_offer c.in-Offer.is c.offer.ensures.outcome (ap counted (sym c.in_ok-offer-in-Offer.was));
  links = c.offer.ensures.links;
  places = c.offer.ensures.places;
  workspace = record { same = refl; room = refl };
}

pub returns-in_err-change-in-Change : goal.returns-in_err-change-in-Change
returns-in_err-change-in-Change g c =
    let exit = c.from_residual-in_err-change-in-Change in
    record {
      outcome = on_change c.in-Change.is c.change.ensures.outcome (exits (err_from_is_err_and exit.result exit.ensures.1) ∙ ap counted (sym c.in_err-change-in-Change.was));
      links = c.change.ensures.links;
      places = c.change.ensures.places;
      workspace = record { same = refl; room = refl };
    }

pub returns-in_ok-change-in-Change : goal.returns-in_ok-change-in-Change
returns-in_ok-change-in-Change g c = record {
  outcome = on_change c.in-Change.is c.change.ensures.outcome (ap counted (sym c.in_ok-change-in-Change.was));
  links = c.change.ensures.links;
  places = c.change.ensures.places;
  workspace = record { same = refl; room = refl };
}

pub returns-in_err-withdraw-in-Withdraw : goal.returns-in_err-withdraw-in-Withdraw
returns-in_err-withdraw-in-Withdraw g c =
    let exit = c.from_residual-in_err-withdraw-in-Withdraw in
    record {
      outcome = on_withdrawal c.in-Withdraw.is c.withdraw.ensures.outcome (exits (err_from_is_err_and exit.result exit.ensures.1) ∙ ap counted (sym c.in_err-withdraw-in-Withdraw.was));
      links = c.withdraw.ensures.links;
      places = c.withdraw.ensures.places;
      workspace = record { same = refl; room = refl };
    }

pub returns-in_ok-withdraw-in-Withdraw : goal.returns-in_ok-withdraw-in-Withdraw
returns-in_ok-withdraw-in-Withdraw g c = record {
  outcome = on_withdrawal c.in-Withdraw.is c.withdraw.ensures.outcome (ap counted (sym c.in_ok-withdraw-in-Withdraw.was));
  links = c.withdraw.ensures.links;
  places = c.withdraw.ensures.places;
  workspace = record { same = refl; room = refl };
}

pub returns-in_err-quote-in-Quote : goal.returns-in_err-quote-in-Quote
returns-in_err-quote-in-Quote g c =
    let exit = c.from_residual-in_err-quote-in-Quote in
    record {
      outcome = on_quote c.in-Quote.is c.quote.ensures.outcome (exits (err_from_is_err_and exit.result exit.ensures.1) ∙ ap answered (sym c.in_err-quote-in-Quote.was));
      links = refl;
      places = c.quote.ensures.places;
      workspace = c.quote.ensures.same;
    }

pub returns-in_ok-quote-in-Quote : goal.returns-in_ok-quote-in-Quote
returns-in_ok-quote-in-Quote g c = record {
  outcome = on_quote c.in-Quote.is c.quote.ensures.outcome (ap Ok c.standing.ensures ∙ ap answered (sym c.in_ok-quote-in-Quote.was));
  links = refl;
  places = c.quote.ensures.places;
  workspace = c.quote.ensures.same;
}

pub returns-in_err-recheck-in-Recheck : goal.returns-in_err-recheck-in-Recheck
returns-in_err-recheck-in-Recheck g c =
    let exit = c.from_residual-in_err-recheck-in-Recheck in
    record {
      outcome = on_recheck c.in-Recheck.is c.recheck.ensures.outcome (exits (err_from_is_err_and exit.result exit.ensures.1) ∙ ap answered (sym c.in_err-recheck-in-Recheck.was));
      links = refl;
      places = c.recheck.ensures.places;
      workspace = c.recheck.ensures.same;
    }

pub returns-in_ok-recheck-in-Recheck : goal.returns-in_ok-recheck-in-Recheck
returns-in_ok-recheck-in-Recheck g c = record {
  outcome = on_recheck c.in-Recheck.is c.recheck.ensures.outcome (ap Ok c.standing-in-Recheck.ensures ∙ ap answered (sym c.in_ok-recheck-in-Recheck.was));
  links = refl;
  places = c.recheck.ensures.places;
  workspace = c.recheck.ensures.same;
}

pub returns-in_err-discard-in-Discard : goal.returns-in_err-discard-in-Discard
returns-in_err-discard-in-Discard g c =
    let exit = c.from_residual-in_err-discard-in-Discard in
    record {
      outcome = on_discard c.in-Discard.is c.discard.ensures.outcome (exits (err_from_is_err_and exit.result exit.ensures.1) ∙ ap emptied (sym c.in_err-discard-in-Discard.was));
      links = refl;
      places = c.discard.ensures.places;
      workspace = record { same = refl; room = refl };
    }

pub returns-in_ok-discard-in-Discard : goal.returns-in_ok-discard-in-Discard
returns-in_ok-discard-in-Discard g c = record {
  outcome = on_discard c.in-Discard.is c.discard.ensures.outcome (ap emptied (sym c.in_ok-discard-in-Discard.was));
  links = refl;
  places = c.discard.ensures.places;
  workspace = record { same = refl; room = refl };
}

pub returns-in_err-mark-in-Read : goal.returns-in_err-mark-in-Read
returns-in_err-mark-in-Read g c =
    let exit = c.from_residual-in_err-mark-in-Read in
    record {
      outcome = on_reading c.in-Read.is c.read.ensures (exits (err_from_is_err_and exit.result exit.ensures.1) ∙ ap showing (sym c.in_err-mark-in-Read.was));
      links = refl;
      places = (refl, refl);
      workspace = record { same = refl; room = refl };
    }

pub returns-in_ok-mark-in-Read : goal.returns-in_ok-mark-in-Read
returns-in_ok-mark-in-Read g c = record {
  outcome = on_reading c.in-Read.is c.read.ensures (ap showing (sym c.in_ok-mark-in-Read.was));
  links = refl;
  places = (refl, refl);
  workspace = record { same = refl; room = refl };
}
