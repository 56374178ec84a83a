use Rattle.std.proofs.Common.{◌≡◌, ◌∙◌, ℕ, List, length, min, ap, sym}
use Rattle.wasm_memory.specs.Linear.{Linear}
use Rattle.edge_abi.specs.declared.status.Status.TheVariants as status
use Rattle.edge_abi.specs.Memory.{put, number_put}
use Rattle.edge_abi.specs.Told.{done}
use Rattle.edge_body.specs.declared.body.Part.{Part}
use Rattle.edge_http_calls.specs.declared.tables.HttpTables.{HttpTables}
use Rattle.edge_http_calls.specs.Bodies.{own_bytes, shortened}
use Rattle.edge_http_calls.specs.Tables.{with_changed}
use Rattle.edge_http_calls.proofs.OwnReads.{read_is}
use Rattle.edge_http_calls.proofs.held.http_body_read.Goals as goal

pub returns-in_ok-bytes-in-Ok-2-clause-row : goal.returns-in_ok-bytes-in-Ok-2-clause-row
returns-in_ok-bytes-in-Ok-2-clause-row c = λ replies.
    let t : HttpTables = c.args.tables.now in
    let parts : List Part = c.in-Ok-2.field-0.now in
    let bytes : c.in_ok-bytes-in-Ok-2.bytes ≡ own_bytes (min c.args.n 65536) parts =
    c.in_ok-bytes-in-Ok-2.ensures.bytes parts c.in-Ok-2.ensures.named ∙ ap (λ (most : ℕ). own_bytes most parts) c.most_of.ensures in
    let left : c.read_body.new.tables ≡ with_changed t c.args.h (shortened (min c.args.n 65536)) =
    c.in_ok-bytes-in-Ok-2.ensures.left ∙ ap (λ (most : ℕ). with_changed t c.args.h (shortened most)) c.most_of.ensures in
    read_is t c.args.memory.now c.args.h c.args.b c.args.n c.args.o parts c.in-Ok-2.ensures.ok c.in-Ok-2.ensures.named c.requires c.if-n-eq0.false c.in_ok-bytes-in-Ok-2.bytes bytes replies
    ∙ (ap (λ (new : HttpTables). done status.Ok new (number_put (put c.args.memory.now c.args.b c.in_ok-bytes-in-Ok-2.bytes) c.args.o 4 (length c.in_ok-bytes-in-Ok-2.bytes)) replies) (sym left) ∙ ap (λ (there : Linear). done status.Ok c.read_body.new.tables there replies) (sym c.tell.ensures))
