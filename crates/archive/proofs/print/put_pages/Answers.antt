use Rattle.std.proofs.Common.{◌≡◌, ◌+◌, [], ◌∷◌, ◌++◌, map, take, sym, ap, ◌∙◌, arith}
use Rattle.std.proofs.lemmas.List.{take_all, map_more}
use Rattle.rules.specs.Shapes.{rules_of}
use Rattle.book.specs.View.{page_of}
use Rattle.archive.specs.Writing.{lines_on}
use Rattle.archive.proofs.Over.{puts_none, puts_same, puts_then}
use Rattle.archive.proofs.Sequence.{lines_on_none, lines_on_append}
use Rattle.archive.proofs.print.put_pages.Goals as goal

pub loop-page-init : goal.loop-page-init
loop-page-init c =
    (puts_same c.args.memory.now c.args.at [] _ c.args.memory.now c.args.at (sym (lines_on_none c.args.k)) (puts_none c.args.memory.now c.args.at), omega arith)

pub loop-page-preserved : goal.loop-page-preserved
loop-page-preserved c =
    let k = c.args.k in
    let i = c.loop-page.page-index in
    let pages = c.args.pages.now in
    let page = c.page-item.result in
    let view = page_of (rules_of c.args.rules.now) in
    let front = map view (take i pages) in
    let more : map view (take (i + 1) pages) ≡ front ++ view page ∷ [] = map_more view pages i page c.loop-page-test.true ∙ ap (λ p. front ++ view p ∷ []) (sym c.page-item.is) in
    let near = c.put_page-end.ensures.near in
    let was = c.loop-page.invariant.1 in (
      puts_same c.args.memory.now c.args.at (lines_on k front ++ lines_on k (view page ∷ [])) _ c.put_page-end.new.memory c.put_page-end.result
          (sym (lines_on_append k front (view page ∷ [])) ∙ ap (lines_on k) (sym more))
          (puts_then c.args.memory.now c.loop-page.memory c.put_page-end.new.memory c.args.at c.loop-page.end c.put_page-end.result (lines_on k front)
          (lines_on k (view page ∷ [])) c.loop-page.invariant.0 c.put_page-end.ensures.puts),
      omega arith,
    )

pub returns : goal.returns
returns c =
    let view = page_of (rules_of c.args.rules.now) in
    let i = c.loop-page.page-index in
    let near = c.loop-page.invariant.1 in
    record {
      puts = puts_same c.args.memory.now c.args.at (lines_on c.args.k (map view (take i c.args.pages.now))) _ c.loop-page.memory c.loop-page.end
          (ap (λ l. lines_on c.args.k (map view l)) (take_all i c.args.pages.now (omega arith))) c.loop-page.invariant.0;
      near = omega arith;
    }
