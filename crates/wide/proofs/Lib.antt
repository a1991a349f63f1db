-- the product of two words by their halves, over any base
pub mod Words
