use Rattle.guest_laws.proofs.laws.guests_of_two_differ.Goals as goal

pub returns : goal.returns
returns g = λ one other guest apart a b. apart guest a.0 b.0 a.1 b.1
