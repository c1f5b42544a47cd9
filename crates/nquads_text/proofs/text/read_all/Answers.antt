use Rattle.std.proofs.Common.{ℕ, List, Result, Ok, Err, subst}
use Rattle.std.specs.Prelude.{IfOk}
use Rattle.std.specs.List.{All, AllByRecursion}
use Rattle.rdf_terms.specs.Triples.{IsRdfQuad}
use Rattle.rdf_terms.specs.declared.term.Quad.{Quad}
use Rattle.nquads_text.specs.declared.fault.Why.{Why}
use Rattle.nquads_text.specs.declared.fault.TextFault.{TextFault}
use Rattle.nquads_text.specs.declared.fault.TextFault.TheVariants.{Bad, OutOfMemory}
use Rattle.nquads_text.specs.Quads.{IsReadable}
use Rattle.nquads_text.specs.Lines.{text_read, Gives}
use Rattle.nquads_text.specs.Reads.{Reads, FirstFault, RefusedFor}
use Rattle.nquads_text.proofs.ReadLaws.{ok_of, bad_of, text_reads, text_faults, reads_text, faults_text, all_readable, at_each}
use Rattle.nquads_text.proofs.text.read_all.Goals as goal

abbrev Found : Type 0
Found = Result (List Quad) (ℕ × Why)

read_of : {X : Type 0} (view : X → List Quad) (longest : ℕ) (bytes : List ℕ) (r : Result X TextFault) → Gives view r (text_read longest bytes) → IfOk r (λ v. Reads bytes longest (view v))
read_of view longest bytes (Ok x) g = text_reads longest bytes (view x) g
read_of view longest bytes (Err e) g = tt

readable_of : {X : Type 0} (view : X → List Quad) (longest : ℕ) (bytes : List ℕ) (r : Result X TextFault) → Gives view r (text_read longest bytes) → IfOk r (λ v. AllByRecursion (IsReadable longest) (view v))
readable_of view longest bytes (Ok x) g = all_readable bytes longest (view x) (text_reads longest bytes (view x) g)
readable_of view longest bytes (Err e) g = tt

classes_of : {X : Type 0} (view : X → List Quad) (longest : ℕ) (r : Result X TextFault) → IfOk r (λ v. AllByRecursion (IsReadable longest) (view v)) → IfOk r (λ v. All IsRdfQuad (view v))
classes_of view longest (Ok x) h = at_each (λ q r. r.classes) (view x) h
classes_of view longest (Err e) h = tt

refused_of : {X : Type 0} (view : X → List Quad) (longest : ℕ) (bytes : List ℕ) (r : Result X TextFault) → Gives view r (text_read longest bytes) → RefusedFor (FirstFault bytes longest) r
refused_of view longest bytes (Ok x) g = tt
refused_of view longest bytes (Err OutOfMemory) g = tt
refused_of view longest bytes (Err (Bad n why)) g = text_faults longest bytes n why g

pub returns-clause-read : goal.returns-clause-read
returns-clause-read c = read_of (λ v. v.items) c.args.longest c.args.bytes.now c.read_exactly.result c.read_exactly.ensures

pub returns-clause-readable : goal.returns-clause-readable
returns-clause-readable c = readable_of (λ v. v.items) c.args.longest c.args.bytes.now c.read_exactly.result c.read_exactly.ensures

pub returns-clause-classes : goal.returns-clause-classes
returns-clause-classes c = classes_of (λ v. v.items) c.args.longest c.read_exactly.result (readable_of (λ v. v.items) c.args.longest c.args.bytes.now c.read_exactly.result c.read_exactly.ensures)

pub returns-clause-refused : goal.returns-clause-refused
returns-clause-refused c = refused_of (λ v. v.items) c.args.longest c.args.bytes.now c.read_exactly.result c.read_exactly.ensures

pub returns-clause-only_read : goal.returns-clause-only_read
returns-clause-only_read c = λ quads h. ok_of (λ v. v.items) quads c.read_exactly.result (subst (λ (r : Found). Gives (λ v. v.items) c.read_exactly.result r) (reads_text c.args.longest c.args.bytes.now quads h) c.read_exactly.ensures)

pub returns-clause-only_refused : goal.returns-clause-only_refused
returns-clause-only_refused c = λ n why h. bad_of (λ v. v.items) n why c.read_exactly.result (subst (λ (r : Found). Gives (λ v. v.items) c.read_exactly.result r) (faults_text c.args.longest c.args.bytes.now n why h) c.read_exactly.ensures)
