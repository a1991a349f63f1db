-- the seven numbers of a reply, and what each call leaves in the lent memory
pub mod Reply
