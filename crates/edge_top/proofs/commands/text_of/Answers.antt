use Rattle.std.proofs.Common.{rules, ℕ, List, [], ◌∷◌, Result, Ok, Err, refl, subst}
use Rattle.edge_outside.specs.declared.fault.IoFault.{IoFault}
use Rattle.edge_outside.specs.Files.{IsRead}
use Rattle.edge_outside.specs.Made.{made_none, made_one}
use Rattle.edge_outside.proofs.Contents.{read_made}
use Rattle.edge_top.specs.Check.{Checks}
use Rattle.edge_top.specs.Script.{Scripts}
use Rattle.edge_top.proofs.commands.text_of.Goals as goal

pub returns-in_err-read-in-Script-clause-works : goal.returns-in_err-read-in-Script-clause-works
returns-in_err-read-in-Script-clause-works g c =
    let name = c.in-Script.name.now in
    let answer : Result (List ℕ) IoFault = Err c.in_err-read-in-Script.field-0.0 in
    let read = read_made g.F.Files.reads g.F.Files.content c.args.files.now name answer c.read.new.self c.in_err-read-in-Script.ensures.call c.in_err-read-in-Script.ensures.answer c.in_err-read-in-Script.ensures.content in (
      (name, answer) ∷ [],
      (
        made_one (IsRead g.F.Files.reads g.F.Files.content) c.args.files.now name answer c.read.new.self read,
        rw c.in-Script.is (refl, search rules),
      ),
    )

pub returns-in_ok-read-in-Script-clause-works : goal.returns-in_ok-read-in-Script-clause-works
returns-in_ok-read-in-Script-clause-works g c =
    let name = c.in-Script.name.now in
    let answer : Result (List ℕ) IoFault = Ok c.in_ok-read-in-Script.field-0.items in
    let read = read_made g.F.Files.reads g.F.Files.content c.args.files.now name answer c.read.new.self c.in_ok-read-in-Script.ensures.call c.in_ok-read-in-Script.ensures.answer c.in_ok-read-in-Script.ensures.content in (
      (name, answer) ∷ [],
      (
        made_one (IsRead g.F.Files.reads g.F.Files.content) c.args.files.now name answer c.read.new.self read,
        rw c.in-Script.is (refl, subst (λ bytes. Scripts bytes c.script_text.result) c.as_slice.ensures.value c.script_text.ensures.gives),
      ),
    )

pub returns-in_err-read-in-Check-clause-works : goal.returns-in_err-read-in-Check-clause-works
returns-in_err-read-in-Check-clause-works g c =
    let name = c.in-Check.name.now in
    let answer : Result (List ℕ) IoFault = Err c.in_err-read-in-Check.field-0.0 in
    let read = read_made g.F.Files.reads g.F.Files.content c.args.files.now name answer c.read-in-Check.new.self c.in_err-read-in-Check.ensures.call c.in_err-read-in-Check.ensures.answer c.in_err-read-in-Check.ensures.content in (
      (name, answer) ∷ [],
      (
        made_one (IsRead g.F.Files.reads g.F.Files.content) c.args.files.now name answer c.read-in-Check.new.self read,
        rw c.in-Check.is (refl, search rules),
      ),
    )

pub returns-in_ok-read-in-Check-clause-works : goal.returns-in_ok-read-in-Check-clause-works
returns-in_ok-read-in-Check-clause-works g c =
    let name = c.in-Check.name.now in
    let answer : Result (List ℕ) IoFault = Ok c.in_ok-read-in-Check.field-0.items in
    let read = read_made g.F.Files.reads g.F.Files.content c.args.files.now name answer c.read-in-Check.new.self c.in_ok-read-in-Check.ensures.call c.in_ok-read-in-Check.ensures.answer c.in_ok-read-in-Check.ensures.content in (
      (name, answer) ∷ [],
      (
        made_one (IsRead g.F.Files.reads g.F.Files.content) c.args.files.now name answer c.read-in-Check.new.self read,
        rw c.in-Check.is (refl, subst (λ bytes. Checks bytes c.check_text.result) c.as_slice-in-Check.ensures.value c.check_text.ensures.gives),
      ),
    )

pub returns-in-Load-clause-works : goal.returns-in-Load-clause-works
returns-in-Load-clause-works g c = ([], (made_none (IsRead g.F.Files.reads g.F.Files.content) c.args.files.now, rw c.in-Load.is (refl, c.load_text.ensures.gives)))

pub returns-in-Play-clause-works : goal.returns-in-Play-clause-works
returns-in-Play-clause-works g c =
    let did = c.play_text.ensures.works in
    (did.0, (did.1.0, rw c.in-Play.is did.1.1))
