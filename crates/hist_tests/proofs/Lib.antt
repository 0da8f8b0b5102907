mod Oks
