use Rattle.std.proofs.Common.{rules, ◌≡◌, ℕ, ◌+◌, List, [], ◌∷◌, map, Result, Ok, Err, Vec, Bor, Global, sym, subst, refl}
use Rattle.std.specs.Result.{IsErrAnd}
use Rattle.std.proofs.lemmas.List.{map-append}
use Rattle.edge_outside.specs.declared.fault.IoFault.{IoFault}
use Rattle.edge_outside.specs.declared.fault.IoFault.TheVariants.{OutOfMemory}
use Rattle.edge_outside.specs.Files.{IsRead, pieces_read}
use Rattle.edge_outside.specs.InOrder.{InOrder}
use Rattle.edge_outside.proofs.Contents.{read_made}
use Rattle.edge_outside.proofs.Ordered.{Keeps, begun, turned, failed, ran_out}
use Rattle.edge_outside.proofs.in_order.read_all.Goals as goal

abbrev pub name_now : Bor (List ℕ) → List ℕ
name_now name = name.now

abbrev pub piece_items : Vec ℕ Global → List ℕ
piece_items piece = piece.items

abbrev pub NoMemory : IoFault → Type 0
NoMemory fault = fault ≡ OutOfMemory

-- an error is told as it is
told_as : (names : List (List ℕ)) (calls : List (List ℕ × Result (List ℕ) IoFault)) (result : Result (Vec (Vec ℕ Global) Global) IoFault) (fault : IoFault) → IsErrAnd result (λ e. e ≡ fault) → InOrder {V = List ℕ} NoMemory names calls (Err fault) → InOrder NoMemory names calls (pieces_read result)
told_as names calls (Ok pieces) fault is ended = absurd is
told_as names calls (Err e) fault is ended = subst (λ f. InOrder {V = List ℕ} NoMemory names calls (Err f)) (sym is) ended

pub loop-name-init : goal.loop-name-init
loop-name-init g c = record {
  kept = subst (λ items. Keeps (IsRead g.F.Files.reads g.F.Files.content) c.args.files.now c.args.files.now [] (map piece_items items)) (sym c.new-pieces.ensures.items) (begun (IsRead g.F.Files.reads g.F.Files.content) c.args.files.now);
  count = search rules;
  later = search rules;
}

pub returns-in_err-read-clause-reads : goal.returns-in_err-read-clause-reads
returns-in_err-read-clause-reads g c =
    let fault = c.in_err-read.field-0.0 in
    let ended =
    failed (IsRead g.F.Files.reads g.F.Files.content) NoMemory name_now c.args.names.now c.loop-name.name-index _ c.args.files.now c.loop-name.files c.read.new.self (map piece_items c.loop-name.pieces.items) fault (search rules) c.loop-name.invariant.kept
    (read_made g.F.Files.reads g.F.Files.content _ _ _ _ c.in_err-read.ensures.call c.in_err-read.ensures.answer c.in_err-read.ensures.content) in
    (ended.calls, (ended.are_made, told_as (map name_now c.args.names.now) ended.calls c.from_residual.result fault c.from_residual.ensures.1 ended.in_order))

pub returns-in_err-push-clause-reads : goal.returns-in_err-push-clause-reads
returns-in_err-push-clause-reads g c =
    let kept =
    turned (IsRead g.F.Files.reads g.F.Files.content) name_now c.args.names.now c.loop-name.name-index _ c.args.files.now c.loop-name.files c.read.new.self (map piece_items c.loop-name.pieces.items) c.in_ok-read.field-0.items (search rules) c.loop-name.invariant.kept
    (read_made g.F.Files.reads g.F.Files.content _ _ _ _ c.in_ok-read.ensures.call c.in_ok-read.ensures.answer c.in_ok-read.ensures.content) in
    let ended = ran_out (IsRead g.F.Files.reads g.F.Files.content) NoMemory name_now c.args.names.now (c.loop-name.name-index + 1) c.args.files.now c.read.new.self _ OutOfMemory refl kept in
    (ended.calls, (ended.are_made, told_as (map name_now c.args.names.now) ended.calls c.from_residual-in_err-push.result OutOfMemory c.from_residual-in_err-push.ensures.1 ended.in_order))

pub loop-name-preserved : goal.loop-name-preserved
loop-name-preserved g c =
    let kept =
    turned (IsRead g.F.Files.reads g.F.Files.content) name_now c.args.names.now c.loop-name.name-index _ c.args.files.now c.loop-name.files c.read.new.self (map piece_items c.loop-name.pieces.items) c.in_ok-read.field-0.items (search rules) c.loop-name.invariant.kept
    (read_made g.F.Files.reads g.F.Files.content _ _ _ _ c.in_ok-read.ensures.call c.in_ok-read.ensures.answer c.in_ok-read.ensures.content) in
    record {
      kept = rw c.in_ok-push.ensures.items (rw (map-append piece_items c.loop-name.pieces.items (c.in_ok-read.field-0 ∷ [])) kept);
      count = search rules;
      later = search rules;
    }
