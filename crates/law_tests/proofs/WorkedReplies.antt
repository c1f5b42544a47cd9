-- Definitions of HTTP, computed on small texts.
use Rattle.std.proofs.Common.{◌≡◌, [], ◌∷◌, ◌++◌, Some, None, refl, true, false}
use Rattle.std.specs.Prelude.{codes}
use Rattle.httparse.specs.Grammar.{is_token_byte, trim_ows}
use Rattle.tpf_base.specs.HttpReader.{read_response, split_run, read_section_in}
use Rattle.tpf_base.specs.HttpHeads.{blank_length, ends_empty, is_word, has_word}
use Rattle.tpf_base.specs.HttpReply.{response_head, final_head, framing_of, is_nquads, body_place, head_place, after_head_byte, is_over, is_padded, line_place, after_line_byte, after_trailer_byte, chunk_size, reading_from, reply_of, Whole}

size_five : chunk_size (codes "05 ;a=b" ++ (13 ∷ 10 ∷ [])) ≡ Some 5
unfolding chunk_size split_run
size_five = refl

no_size : chunk_size (codes "5g" ++ (13 ∷ 10 ∷ [])) ≡ None
unfolding chunk_size split_run
no_size = refl

short_reply : reply_of (codes "HTTP/1.1 200 OK" ++ (13 ∷ 10 ∷ []) ++ codes "Content-Type: application/n-quads" ++ (13 ∷ 10 ∷ []) ++ codes "Content-Length: 2" ++ (13 ∷ 10 ∷ 13 ∷ 10 ∷ []) ++ codes "abc") false 9 ≡ Whole (codes "ab") 75 true
unfolding reading_from blank_length ends_empty read_response split_run read_section_in is_token_byte trim_ows is_word has_word response_head final_head framing_of is_nquads body_place head_place after_head_byte is_over is_padded line_place after_line_byte after_trailer_byte
short_reply = refl

chunked_reply : reply_of (codes "HTTP/1.1 200 OK" ++ (13 ∷ 10 ∷ []) ++ codes "Content-Type: application/n-quads" ++ (13 ∷ 10 ∷ []) ++ codes "Transfer-Encoding: Chunked" ++ (13 ∷ 10 ∷ 13 ∷ 10 ∷ []) ++ codes "2;x" ++ (13 ∷ 10 ∷ []) ++ codes "ab" ++ (13 ∷ 10 ∷ []) ++ codes "0" ++ (13 ∷ 10 ∷ 10 ∷ []) ++ codes "zz") false 9 ≡ Whole (codes "ab") 95 true
unfolding reading_from blank_length ends_empty read_response split_run read_section_in is_token_byte trim_ows chunk_size is_word has_word response_head final_head framing_of is_nquads body_place head_place after_head_byte is_over is_padded line_place after_line_byte after_trailer_byte
chunked_reply = refl
