pub mod AllMends
